-- What a ticket comes to, case by case.
use Prim.Native.Nat.{ℕ}
use mathlib.Core.Path.{◌≡◌, refl, sym, ◌∙◌, ap, ap₂, subst}
use mathlib.Core.List.{List, ◌++◌}
use lib.ListN.{length, drop}
use Rattle.std.specs.Prelude.{Result, Ok, Err}
use Rattle.calculus.specs.Meaning.{Assignment}
use Rattle.calculus.specs.Cores.{Set}
use Rattle.format.specs.Answer.{encode}
use Rattle.format.specs.Checking as format
use Rattle.cores.specs.declared.Words.{Words}
use Rattle.cores.specs.Words.{words_of}
use Rattle.faults.specs.Numbers.{number}
use Rattle.faults.specs.declared.Fault.{Fault}
use Rattle.faults.specs.declared.Refusal.{Refusal}
use Rattle.deciding.specs.declared.Verdict.{Verdict}
use Rattle.deciding.specs.declared.Verdict.TheVariants.{NoSolution, Strings}
use Rattle.deciding.specs.Outcomes as outcomes
use Rattle.deciding.specs.Outcomes.{told, Decided}

-- ---- by what it comes to

module _ {o : format.Outcome} where
  pub refused : {f : Refusal} {set : Set} (a : List ℕ) → o ≡ format.Refused (number f.fault) f.record → Decided o set a a (Err f)
  unfolding told
  refused {f} {set} a e = subst (λ x. Decided x set a a (Err f)) (sym e) (record { tells = refl; answer_is = refl })

  pub refused_at : {x : Refusal} {r : ℕ} {set : Set} (a : List ℕ) (f : Fault)
      → (x.fault ≡ f) × (x.«record» ≡ r)
      → o ≡ format.Refused (number f) r
      → Decided o set a a (Err x)
  refused_at a f h e = refused a (e ∙ sym (ap₂ format.Refused (ap number h.0) h.1))

  -- "an accepted "no solution" writes nothing to the answer buffer"
  pub no_solution : {words : Words} (set : Set) (a : List ℕ) → o ≡ format.NoSolution → words ≡ words_of set → Decided o set a a (Ok (NoSolution words))
  unfolding told
  no_solution {words} set a e f =
      subst (λ z. Decided z set a a (Ok (NoSolution words))) (sym e)
      (record { tells = ap (λ (x : Words). outcomes.NoSolution x.low x.high) f; answer_is = refl })

  -- "strings write nothing past the answer's length"
  pub strings : {given : Assignment} {set : Set} (a a' : List ℕ) → o ≡ format.Strings given → a' ≡ encode given ++ drop (length (encode given)) a → Decided o set a a' (Ok Strings)
  unfolding told
  strings {set = set} a a' e w = subst (λ x. Decided x set a a' (Ok Strings)) (sym e) (record { tells = refl; answer_is = w })

-- what comes to the same is decided alike
pub decided_by : {o x : format.Outcome} {set : Set} {a a' : List ℕ} {r : Result Verdict Refusal} → o ≡ x → Decided x set a a' r → Decided o set a a' r
decided_by {set = set} {a = a} {a' = a'} {r = r} e d = subst (λ y. Decided y set a a' r) (sym e) d

-- and with a set that is the same it tells the same
pub with_set : {o : format.Outcome} {set more : Set} {a a' : List ℕ} {r : Result Verdict Refusal} → set ≡ more → Decided o more a a' r → Decided o set a a' r
with_set {o} {a = a} {a' = a'} {r = r} e d = subst (λ s. Decided o s a a' r) (sym e) d
