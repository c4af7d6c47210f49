-- A test's result, with the record where its error was found.
use mathlib.Core.Path.{◌≡◌, refl, sym, ◌∙◌, subst}
use Rattle.std.specs.Prelude.{Result, Ok, Err}
use Rattle.std.specs.Result.{MatchResult, IsErrAnd}

module _ {T E D : Type 0} (P : E → D → Type 0) (r : Result T E) {q : Result T D} where
  -- a value is handed on
  pub value_before : {x : T} → MatchResult r (λ y. q ≡ Ok y) (λ e. IsErrAnd q (P e)) → q ≡ Ok x → r ≡ Ok x
  value_before {x} h e = go r h
    where
      go : (s : Result T E) → MatchResult s (λ y. q ≡ Ok y) (λ e. IsErrAnd q (P e)) → s ≡ Ok x
      go (Ok y) f = let p = sym f ∙ e in cc
      go (Err d) f = absurd (subst (λ s. IsErrAnd s (P d)) e f)

  -- an error stands before an error
  pub error_before : {d : D} → MatchResult r (λ y. q ≡ Ok y) (λ e. IsErrAnd q (P e)) → q ≡ Err d → (e : E) × (r ≡ Err e) × P e d
  error_before {d} h e = go r h
    where
      go : (s : Result T E) → MatchResult s (λ y. q ≡ Ok y) (λ e. IsErrAnd q (P e)) → (e : E) × (s ≡ Err e) × P e d
      go (Ok y) f = let p = sym f ∙ e in cc
      go (Err g) f = (g, refl, subst (λ s. IsErrAnd s (P g)) e f)
