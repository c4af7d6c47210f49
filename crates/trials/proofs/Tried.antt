-- The numbers 8 to 10, test by test; and the child taken.
use Prim.Native.Nat.{ℕ, zero, suc}
use native.Mathlib.Omega.{arith}
use mathlib.Core.Path.{◌≡◌, refl, ◌∙◌, ap}
use mathlib.Core.Bool.{Bool, true, false, ◌&&◌}
use mathlib.Core.Option.{Option, none, some}
use mathlib.Core.List.{List, [], ◌∷◌, map}
use lib.ListN.{length, length-map}
use lib.IntN.{ℤ}
use Rattle.calculus.specs.Facts.{Fact, Branch}
use Rattle.calculus.specs.Steps.{shape}
use Rattle.calculus.proofs.Shapes.{children_shape}
use Rattle.format.specs.Records.{need}
use Rattle.format.specs.StepForms.{rule, child_field, step_at, child_in_range}
use Rattle.format.specs.Checking.{fits, or_none, facts_within, children_within, room, room_for_all, room_to_pend, all_tried, taken_tried, child_in}
use Rattle.format.proofs.Faults.{clash}
use Rattle.delimiters.specs.declared.Claim.{Claim}
use Rattle.delimiters.specs.declared.Claim.TheVariants.{NoSolution, Strings}
use Rattle.question.specs.declared.Progress.{Progress}
use Rattle.question.specs.Posed.{asked}
use Rattle.steps.specs.Conclusions.{conclusions_of}
use Rattle.steps.specs.declared.Conclusions.TheVariants.{Nothing, Several}
use Rattle.steps.specs.Offered.{offered, tried_under}
use Rattle.steps.specs.Ready.{Ready}
use Rattle.steps.proofs.Concluding.{no_child, some_child, child_between}
use Rattle.steps.proofs.Bodies.{before, given}
use Rattle.steps.proofs.Offered.{none_there, child_in_there, its_shape}

-- ---- claim 1

module _ (br : Branch) (pending : ℕ) (o : Option (List (List Fact))) where
  pub split_eight : fits o ≡ false → 8 ≡ all_tried br pending o
  split_eight e = rw e

  pub split_nine : fits o ≡ true → children_within (or_none o) ≡ false → 9 ≡ all_tried br pending o
  split_nine e w = rw (e, w)

  -- the facts find room, and the split among those pending
  pub split_ten : (t p : Bool)
      → fits o ≡ true
      → children_within (or_none o) ≡ true
      → room_for_all (length br) (or_none o) ≡ t
      → room_to_pend pending (or_none o) ≡ p
      → need 10 (t && p) 0 ≡ all_tried br pending o
  split_ten t p e w r q = rw (e, w, r, q)

-- ---- claim 2

module _ (br : Branch) (o : Option (List Fact)) where
  pub taken_eight : fits o ≡ false → 8 ≡ taken_tried br o
  taken_eight e = rw e

  pub taken_nine : fits o ≡ true → facts_within (or_none o) ≡ false → 9 ≡ taken_tried br o
  taken_nine e w = rw (e, w)

  pub taken_ten : (t : Bool) → fits o ≡ true → facts_within (or_none o) ≡ true → room (length br) (or_none o) ≡ t → need 10 t 0 ≡ taken_tried br o
  taken_ten t e w r = rw (e, w, r)

-- ---- the child taken

-- a step that closes has none
none_taken : (br : Branch) (o : Option (List (List Fact))) (k : ℕ)
    → ((cs : List (List Fact)) → o ≡ some cs → map length cs ≡ [])
    → 8 ≡ taken_tried br (child_in o k)
none_taken br none k h = refl
none_taken br (some []) zero h = refl
none_taken br (some []) (suc k) h = refl
none_taken br (some (c ∷ cs)) k h = let f = h (c ∷ cs) refl in clash cc

module _ {b : List ℕ} {s : Progress} {body m : ℕ} {w : List ℤ} {count : ℕ} (h : Ready b s body m w count) (k : ℕ) where
  pub closing_eight : conclusions_of (rule b body) ≡ Nothing → 8 ≡ taken_tried (before h) (child_in (given h) k)
  unfolding offered
  closing_eight e =
      none_taken (before h) (given h) k
      (λ cs f. children_shape (asked b s) (before h) (step_at b body m) cs f ∙ no_child b (asked b s).n body m h.formed.fits e)

  -- of a split that fits there is one
  pub taken_there : conclusions_of (rule b body) ≡ Several
      → child_in_range s.n (step_at b body m) k ≡ true
      → fits (given h) ≡ true
      → fits (child_in (given h) k) ≡ true
  taken_there several e f =
      let (l, g) = child_between (shape s.n (step_at b body m)) k (some_child b s.n body m h.formed.fits several) e in
      child_in_there (given h) k f l (omega (arith, length-map (or_none (given h)) length, ap length (its_shape h f)))

-- ---- under either claim

module _ {b : List ℕ} {s : Progress} {body m : ℕ} {w : List ℤ} {count : ℕ} (h : Ready b s body m w count) (pending : ℕ) where
  -- a step that does not fit
  pub none_fits : (claim : Claim) → fits (given h) ≡ false → 8 ≡ tried_under claim b s body m w count pending
  none_fits NoSolution e = split_eight (before h) pending (given h) e
  none_fits Strings e = taken_eight (before h) (child_in (given h) (child_field b body)) (none_there (given h) (child_field b body) e)
