-- A test's fault is the refusal of record k.
use Prim.Native.Nat.{ℕ}
use mathlib.Core.Path.{◌≡◌, refl, sym, ap, subst, ◌∙◌}
use borrow.Author.Rules.{rules}
use Rattle.std.specs.Prelude.{Result, Ok, Err}
use Rattle.std.specs.Result.{MatchResult, IfOk, IsErrAnd}
use Rattle.faults.specs.Numbers.{number, fault_in}
use Rattle.faults.specs.declared.Fault.{Fault}
use Rattle.faults.specs.declared.Refusal.{Refusal}

pub refused : {A : Type 0} (P : Fault → Refusal → Type 0) (x : Result A Fault) (y : Result A Refusal) → MatchResult x (λ v. y ≡ Ok v) (λ e. IsErrAnd y (P e))
    → (q : Refusal) → y ≡ Err q
    → (k : ℕ) → ((e : Fault) → P e q → (q.fault ≡ e) × (q.record ≡ k))
    → (number q.fault ≡ fault_in x) × (q.record ≡ k)
refused P (Ok v) y h q e k f = absurd (search (rules, sym h ∙ e))
refused P (Err d) y h q e k f = let (a, b) = f d (subst (λ y. IsErrAnd y (P d)) e h) in (ap number a, b)

pub passed : {A : Type 0} (P : Fault → Refusal → Type 0) (x : Result A Fault) (y : Result A Refusal) → MatchResult x (λ v. y ≡ Ok v) (λ e. IsErrAnd y (P e))
    → (v : A) → y ≡ Ok v → x ≡ Ok v
passed {A} P (Ok w) y h v e = subst (λ (z : Result A Refusal). IfOk z (λ v. ◌≡◌ {A = Result A Fault} (Ok w) (Ok v))) (sym h ∙ e) refl
passed P (Err d) y h v e = absurd (subst (λ y. IsErrAnd y (P d)) e h)
