-- The numbers 8 to 10 of a step with one conclusion, from the fact that it adds; and claim 1's tests of it are claim 2's.
use Prim.Native.Nat.{ℕ, ◌+◌, ◌<◌, ◌≤◌}
use native.Mathlib.Omega.{arith}
use mathlib.Core.Path.{◌≡◌, refl, sym, ◌∙◌, ap, ap₂, subst}
use mathlib.Core.Logic.{◌⊎◌, inl, inr}
use mathlib.Core.Bool.{Bool, true, false, ◌&&◌}
use mathlib.Core.Option.{Option, none, some}
use mathlib.Core.List.{List, [], ◌∷◌, ◌++◌, map}
use lib.ListN.{length}
use Rattle.std.proofs.Common.{Result, Ok, Err}
use lib.Dec.{leb}
use lib.IntN.{ℤ}
use borrow.Author.Tests.{le-leb, lt-leb}
use Rattle.calculus.specs.Limits.{fact_limit}
use Rattle.calculus.specs.Facts.{Question, Fact, Branch}
use Rattle.calculus.specs.Children.{one}
use Rattle.calculus.proofs.Shapes.{children_shape}
use Rattle.format.specs.Records.{need}
use Rattle.format.specs.StepForms.{rule, length_fits, step_at}
use Rattle.faults.specs.declared.Fault.{Fault}
use Rattle.faults.specs.declared.Fault.TheVariants.{DoesNotFit, PassesLimit, NoRoom}
use Rattle.faults.specs.Numbers.{number}
use Rattle.format.specs.Checking.{fact_within, facts_within, children_within, room_for_all, all_tried, taken_tried, child_in, or_none}
use Rattle.format.proofs.Faults.{clash}
use Rattle.rows.specs.Rows.{branch_of, Behind}
use Rattle.rows.specs.Work.{Fine}
use Rattle.rows.proofs.Branches.{length_branch}
use Rattle.rows.proofs.Small.{fine_put}
use Rattle.steps.specs.Conclusions.{conclusions_of}
use Rattle.steps.specs.declared.Conclusions.TheVariants.{One}
use Rattle.steps.specs.Offered.{offered}
use Rattle.steps.proofs.Concluding.{one_child}
use Rattle.conclusions.specs.Made.{Concludes}

-- ---- 8 to 10, and the fact after the others

module _ (w v : List ℤ) (count : ℕ) (o : Option (List (List Fact))) where
  abbrev Tried : Result Unit Fault → Type 0
  Tried r = Concludes o w count v r

  -- where a number applies nothing more is promised
  refused : (f : Fault) → number f ≡ taken_tried (branch_of w count) (child_in o 1) → Tried (Err f)
  refused f e = record { fault = e; added = tt; fine = tt }

  of : (p : Option (List (List Fact))) → o ≡ p → taken_tried (branch_of w count) (child_in p 1) ≡ taken_tried (branch_of w count) (child_in o 1)
  of p e = ap (λ (q : Option (List (List Fact))). taken_tried (branch_of w count) (child_in q 1)) (sym e)

  pub eight : o ≡ none → Tried (Err DoesNotFit)
  eight e = refused DoesNotFit (of none e)

  module _ (f : Fact) (e : o ≡ some (one f)) where
    tried : (s r : Bool) → fact_within f ≡ s → leb (count + 1) fact_limit ≡ r → need 9 (s && true) (need 10 r 0) ≡ taken_tried (branch_of w count) (child_in o 1)
    unfolding facts_within
    tried s r es er =
        sym (ap₂ (λ (a b : Bool). need 9 (a && true) (need 10 b 0)) es (ap (λ (n : ℕ). leb (n + 1) fact_limit) (length_branch w count) ∙ er))
        ∙ of (some (one f)) e

    pub nine : fact_within f ≡ false → Tried (Err PassesLimit)
    nine s = refused PassesLimit (tried false _ s refl)

    module _ (s : fact_within f ≡ true) where
      pub ten : fact_limit ≤ count → Tried (Err NoRoom)
      ten h = refused NoRoom (tried true false s (lt-leb (count + 1) fact_limit (omega arith)))

      pub concluded : Fine w count → count < fact_limit → length v ≡ length w → Behind w count f v → Tried (Ok tt)
      concluded fine h l b = record {
        fault = tried true true s (le-leb (count + 1) fact_limit (omega arith));
        added = b ∙ ap (λ (p : Option (List (List Fact))). branch_of w count ++ or_none (child_in p 1)) (sym e);
        fine = fine_put w v count f fine h l b s;
      }

-- that is what holds of the children by another name
pub concludes_as : {w v : List ℤ} {count : ℕ} {r : Result Unit Fault} (o p : Option (List (List Fact))) → o ≡ p → Concludes o w count v r
    → Concludes p w count v r
concludes_as {w} {v} {count} {r} o p e h = subst (λ (q : Option (List (List Fact))). Concludes q w count v r) e h

-- ---- a rule with one conclusion has one child with one fact, where it fits

abbrev pub Single : Option (List (List Fact)) → Type 0
Single o = (o ≡ none) ⊎ ((f : Fact) × (o ≡ some (one f)))

single : (o : Option (List (List Fact))) → ((cs : List (List Fact)) → o ≡ some cs → map length cs ≡ 1 ∷ []) → Single o
single none h = inl refl
single (some []) h = let e = h [] refl in clash cc
single (some ([] ∷ cs)) h = let e = h ([] ∷ cs) refl in clash cc
single (some ((f ∷ []) ∷ [])) h = inr (f, refl)
single (some ((f ∷ g ∷ fs) ∷ cs)) h = let e = h ((f ∷ g ∷ fs) ∷ cs) refl in clash cc
single (some ((f ∷ []) ∷ c ∷ cs)) h = let e = h ((f ∷ []) ∷ c ∷ cs) refl in clash cc

pub one_conclusion : (u : Question) (br : Branch) (b : List ℕ) (body m : ℕ)
    → length_fits b body m ≡ true
    → conclusions_of (rule b body) ≡ One
    → Single (offered b u br body m)
unfolding offered
one_conclusion u br b body m f e = single (offered b u br body m) (λ cs q. children_shape u br (step_at b body m) cs q ∙ one_child b u.n body m f e)

-- "Under claim 1 all children of a split are tried": of one child the tests are the same, with any number of splits pending
both_tried : (w r : Bool) → need 9 ((w && true) && true) (need 10 ((r && true) && true) 0) ≡ need 9 (w && true) (need 10 r 0)
both_tried true true = refl
both_tried true false = refl
both_tried false r = refl

pub tried_once : (br : Branch) (pending : ℕ) (o : Option (List (List Fact))) → Single o → all_tried br pending o ≡ taken_tried br (child_in o 1)
unfolding facts_within children_within room_for_all
tried_once br pending o (inl e) = rw e
tried_once br pending o (inr (f, e)) = rw e (both_tried (fact_within f) (leb (length br + 1) fact_limit))
