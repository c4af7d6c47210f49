-- The tests at a leaf, one after the other.
use Prim.Native.Nat.{◌-◌}
use mathlib.Core.Path.{◌≡◌, sym, ◌∙◌, ap}
use mathlib.Core.Bool.{Bool, true}
use mathlib.Core.List.{List}
use lib.IntN.{ℤ}
use Rattle.calculus.specs.Limits.{column_limit}
use Rattle.calculus.specs.Facts.{Question, Branch, column_count}
use Rattle.calculus.specs.SettledTest.{settled}
use Rattle.format.specs.Records.{need}
use Rattle.format.specs.Checking.{keeps, short_lengths, leaf_fault}
use Rattle.format.proofs.Faults.{none_applies}
use Rattle.rows.proofs.Values.{keeps_filled}
use Rattle.question.specs.declared.Progress.{Progress}
use Rattle.question.specs.Posed.{numbered}
use Rattle.model.specs.Settled.{values, Filled}

pub leaf_tests : (u : Question) (br : Branch) (m : List ℤ) (k s l : Bool) → keeps m br ≡ k → settled u br m ≡ s → short_lengths u m ≡ l
    → need 12 k (need 13 s (need 14 l 0)) ≡ leaf_fault u br m
leaf_tests u br m k s l ek es el =
    sym (ap (λ (t : Bool). need 12 t (need 13 (settled u br m) (need 14 (short_lengths u m) 0))) ek
    ∙ ap (λ (t : Bool). need 12 k (need 13 t (need 14 (short_lengths u m) 0))) es
    ∙ ap (λ (t : Bool). need 12 k (need 13 s (need 14 t 0))) el)

-- zeros past the columns change no fact's value
pub keeps_columns : (m : List ℤ) (s : Progress) (br : Branch) → Filled m s → keeps m br ≡ keeps (values s m) br
keeps_columns m s br h = ap (λ (zs : List ℤ). keeps zs br) h.rest ∙ keeps_filled (values s m) (column_limit - column_count (numbered s)) br

-- no number applies: the leaf is settled, and no length passes 64
pub leaf_passes : (u : Question) (br : Branch) (m : List ℤ) → leaf_fault u br m ≡ 0 → (settled u br m ≡ true) × (short_lengths u m ≡ true)
leaf_passes u br m e =
    let behind = (none_applies 11 (keeps m br) (need 13 (settled u br m) (need 14 (short_lengths u m) 0)) e).1 in
    let (is-settled, last) = none_applies 12 (settled u br m) (need 14 (short_lengths u m) 0) behind in
    (is-settled, (none_applies 13 (short_lengths u m) 0 last).0)
