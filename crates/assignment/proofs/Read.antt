-- The answer's records, one after another: what each test says of the form and the ranges.
use Prim.Native.Nat.{ℕ, zero, suc, ◌-◌, ◌<◌}
use native.Mathlib.Omega.{arith}
use mathlib.Core.Path.{◌≡◌, refl, sym, ◌∙◌, ap}
use mathlib.Core.Bool.{Bool, true, false}
use mathlib.Core.Option.{Option, none, some}
use mathlib.Core.List.{List}
use lib.ListN.{length}
use borrow.Author.Tests.{le-leb, lt-leb}
use Rattle.lists.proofs.Lists.{down}
use Rattle.std.specs.Prelude.{Some, None}
use Rattle.calculus.specs.Limits.{value_limit}
use Rattle.calculus.specs.Alphabet.{all_characters}
use Rattle.calculus.specs.Facts.{Question}
use Rattle.format.specs.Fields.{all_within}
use Rattle.format.specs.Records.{size, kind, next, whole}
use Rattle.format.specs.Places.{skip, text_at}
use Rattle.format.specs.Answer.{string_form, answer_form, integers_at, outside}
use Rattle.format.proofs.Faults.{clash}
use Rattle.records.specs.declared.Found.{Found}
use Rattle.records.specs.declared.Found.TheVariants.{Whole, Cut, Nothing}
use Rattle.records.specs.Found.{found_at}
use Rattle.records.proofs.Finding.{found_nothing, found_cut, found_whole}
use Rattle.assignment.specs.declared.Outside.{Outside}
use Rattle.assignment.specs.Form.{placed_in}

-- ---- what was found at a position

module _ (b : List ℕ) (at : ℕ) where
  pub whole_there : {k m : ℕ} → found_at b at ≡ Whole k m → (whole b at ≡ true) × (k ≡ kind b at) × (m ≡ size b at)
  whole_there {k} {m} e = let (f, g, h) = found_whole b at k m e in (le-leb (next b at) (length b) (omega arith), f, g)

  -- whatever else was found, no record is whole there
  pub none_there : ((k m : ℕ) → found_at b at ≡ Whole k m → ⊥) → whole b at ≡ false
  none_there = go (found_at b at) refl
    where
      go : (f : Found) → found_at b at ≡ f → ((k m : ℕ) → f ≡ Whole k m → ⊥) → whole b at ≡ false
      go (Whole k m) e h = absurd (h k m refl)
      go (Cut k) e h = lt-leb (next b at) (length b) (found_cut b at k e).2
      go Nothing e h = lt-leb (next b at) (length b) (omega (arith, found_nothing b at e))

-- ---- the form, record by record

module _ (b : List ℕ) (q at : ℕ) where
  pub form_yes : (p : ℕ) → 0 < p → string_form b at ≡ true → answer_form b p q at ≡ answer_form b (p - 1) q (next b at)
  unfolding answer_form
  form_yes zero h e = absurd (omega arith)
  form_yes (suc p) h e = rw (e, down p)

  pub form_no : (p : ℕ) → 0 < p → string_form b at ≡ false → answer_form b p q at ≡ false
  unfolding answer_form
  form_no zero h e = absurd (omega arith)
  form_no (suc p) h e = rw e

-- ---- the ranges, record by record

module _ (b : List ℕ) (u : Question) (r at : ℕ) where
  abbrev by_strings : ℕ → Bool → Option ℕ
  by_strings p t = elim t as (λ _. Option ℕ) [ true ↦ outside b u p (suc r) (next b at) | false ↦ some r ]

  abbrev by_integers : Bool → Option ℕ
  by_integers t = elim t as (λ _. Option ℕ) [ true ↦ none | false ↦ some r ]

  pub outside_yes : (p : ℕ) → 0 < p → all_characters u.n (text_at b at) ≡ true → outside b u p r at ≡ outside b u (p - 1) (suc r) (next b at)
  unfolding outside
  outside_yes zero h e = absurd (omega arith)
  outside_yes (suc p) h e = ap (by_strings p) e ∙ ap (λ (k : ℕ). outside b u k (suc r) (next b at)) (sym (down p))

  pub outside_no : (p : ℕ) → 0 < p → all_characters u.n (text_at b at) ≡ false → outside b u p r at ≡ some r
  unfolding outside
  outside_no zero h e = absurd (omega arith)
  outside_no (suc p) h e = ap (by_strings p) e

  pub outside_none : (p : ℕ) → p ≡ 0 → all_within value_limit (integers_at b u.q at) ≡ true → outside b u p r at ≡ none
  unfolding outside
  outside_none zero h e = ap by_integers e
  outside_none (suc p) h e = absurd (omega arith)

  pub outside_last : (p : ℕ) → p ≡ 0 → all_within value_limit (integers_at b u.q at) ≡ false → outside b u p r at ≡ some r
  unfolding outside
  outside_last zero h e = ap by_integers e
  outside_last (suc p) h e = absurd (omega arith)

-- ---- a record out of range, found at its place

module _ (v : List ℕ) where
  pub found_outside : (o : Option ℕ) {r at : ℕ} → Some record { number = r; at = at } ≡ placed_in v o → (o ≡ some r) × (at ≡ skip v r 0)
  found_outside none e = clash cc
  found_outside (some k) {r} {at} e =
      let same : ◌≡◌ {A = Outside} record { number = r; at = at } record { number = k; at = skip v k 0 } = cc in
      let number : k ≡ r = sym (ap (λ (o : Outside). o.number) same) in
      (ap some number, ap (λ (o : Outside). o.at) same ∙ ap (λ (i : ℕ). skip v i 0) number)

  pub found_nowhere : (o : Option ℕ) → None ≡ placed_in v o → o ≡ none
  found_nowhere none e = refl
  found_nowhere (some k) e = clash cc
