-- Pending splits: rows at or above a mark do not touch what is below it, so the splits pend as before on a branch that grows.
use Prim.Native.Nat.{ℕ, suc, ◌+◌, ◌≤◌, ◌<◌}
use native.Mathlib.Omega.{arith}
use mathlib.Core.Path.{◌≡◌, refl, sym, ◌∙◌, ap, subst}
use mathlib.Core.Bool.{Bool, true, false, cond}
use mathlib.Core.List.{List, [], ◌∷◌, ◌++◌}
use lib.ListN.{length, take, length-append}
use lib.Seq.{take-append-le, take-append_seam, take_at, take-take, length-take-le}
use lib.Dec.{ltb}
use borrow.Author.Tests.{ltb-true}
use Rattle.calculus.specs.Limits.{fact_limit, pending_limit}
use Rattle.calculus.specs.Facts.{Question, Fact, Branch}
use Rattle.format.specs.StepForms.{rule}
use Rattle.format.specs.Checking.{facts_within}
use Rattle.rows.proofs.Small.{within_append, within_take}
use Rattle.steps.specs.Conclusions.{conclusions_of}
use Rattle.steps.specs.declared.Conclusions.TheVariants.{Several}
use Rattle.branch.specs.declared.Split.{Split}
use Rattle.branch.specs.Stack.{split, begun_of}
use Rattle.derivation.specs.State.{child_on, waiting_on, waitings}
use Rattle.derivation.specs.Ok.{Splits, Rooted, Pends, AllPend, Ok}
use Rattle.derivation.proofs.Children.{child_within, child_room}

-- ---- the question's constraints stand first

pub rooted_grown : (u : Question) (br c : Branch) → Rooted u br → Rooted u (br ++ c)
rooted_grown u br c h = record {
  long = omega (arith, h.long, length-append br c);
  first = take-append-le (length u.constraints) br c h.long ∙ h.first;
}

-- and do so on a branch that is cut after them
pub rooted_cut : (u : Question) (br : Branch) (n : ℕ) → length u.constraints ≤ n → n ≤ length br → Rooted u br → Rooted u (take n br)
rooted_cut u br n l g h = record {
  long = omega (arith, l, length-take-le n br g);
  first = take-take (length u.constraints) n br l ∙ h.first;
}

-- ---- a branch that grows

module _ (b : List ℕ) (u : Question) where
  pub pend_grown : (br c : Branch) (ss : List Split) → AllPend b u br ss → AllPend b u (br ++ c) ss
  unfolding AllPend
  pend_grown br c [] h = tt
  pend_grown br c (s ∷ ss) h =
      let e : take s.mark (br ++ c) ≡ take s.mark br = take-append-le s.mark br c h.0.behind in
      let here : Pends b u (br ++ c) s = record {
        rooted = h.0.rooted;
        behind = omega (arith, h.0.behind, length-append br c);
        several = h.0.several;
        splits = subst (λ (l : Branch). Splits b u l s.at s.last) (sym e) h.0.splits;
        some_begun = h.0.some_begun;
        some_left = h.0.some_left;
      } in
      (here, subst (λ (l : Branch). AllPend b u l ss) (sym e) h.1)

  pub waitings_grown : (br c : Branch) (ss : List Split) → AllPend b u br ss → waitings b u (br ++ c) ss ≡ waitings b u br ss
  unfolding AllPend waitings
  waitings_grown br c [] h = refl
  waitings_grown br c (s ∷ ss) h =
      ap (λ (l : Branch). waiting_on b u l s ∷ waitings b u l ss) (take-append-le s.mark br c h.0.behind)

  pub length_waitings : (br : Branch) (ss : List Split) → length (waitings b u br ss) ≡ length ss
  unfolding waitings
  length_waitings br [] = refl
  length_waitings br (s ∷ ss) = ap suc (length_waitings (take s.mark br) ss)

-- ---- the first child of a split is begun

module _ (b : List ℕ) (u : Question) (br : Branch) (ss : List Split) (at n : ℕ) (ok : Ok b u br ss) (sp : Splits b u br at n) where
  few_first : 1 ≤ n → length (br ++ child_on b u br at 1) ≤ fact_limit
  few_first h = omega (arith, length-append br (child_on b u br at 1), child_room sp 1 (omega arith) h)

  small_first : 1 ≤ n → facts_within (br ++ child_on b u br at 1) ≡ true
  small_first h = within_append br (child_on b u br at 1) ok.small (child_within sp 1)

  -- its only child
  pub ok_one : 1 ≤ n → Ok b u (br ++ child_on b u br at 1) ss
  ok_one h = record {
    rooted = rooted_grown u br (child_on b u br at 1) ok.rooted;
    few = few_first h;
    small = small_first h;
    few_pending = ok.few_pending;
    pend = pend_grown b u br (child_on b u br at 1) ss ok.pend;
  }

  -- the split is pending
  pub ok_split : conclusions_of (rule b (at + 6)) ≡ Several
      → 2 ≤ n
      → length ss < pending_limit
      → Ok b u (br ++ child_on b u br at 1) (split (length br) at 2 n ∷ ss)
  unfolding AllPend
  ok_split r h g =
      let c : List Fact = child_on b u br at 1 in
      let e : take (length br) (br ++ c) ≡ br = take-append_seam br c in
      let here : Pends b u (br ++ c) (split (length br) at 2 n) = record {
        rooted = ok.rooted.long;
        behind = omega (arith, length-append br c);
        several = r;
        splits = subst (λ (l : Branch). Splits b u l at n) (sym e) sp;
        some_begun = omega arith;
        some_left = h;
      } in
      record {
        rooted = rooted_grown u br c ok.rooted;
        few = few_first (omega arith);
        small = small_first (omega arith);
        few_pending = omega arith;
        pend = (here, subst (λ (l : Branch). AllPend b u l ss) (sym e) ok.pend);
      }

-- ---- the next child of the last pending split is begun

-- the branch cut back to its mark, and the facts of that child
abbrev pub cut_to : Branch → Split → Branch
cut_to br s = take s.mark br

abbrev pub begun_on : List ℕ → Question → Branch → Split → List Fact
begun_on b u br s = child_on b u (cut_to br s) s.at s.child

module _ (b : List ℕ) (u : Question) (br : Branch) (s : Split) (ss : List Split) (ok : Ok b u br (s ∷ ss)) where
  pub its_pends : Pends b u br s
  unfolding AllPend
  its_pends = ok.pend.0

  others_pend : AllPend b u (cut_to br s) ss
  unfolding AllPend
  others_pend = ok.pend.1

  pub length_cut : length (cut_to br s) ≡ s.mark
  length_cut = length-take-le s.mark br its_pends.behind

  few_begun : length (cut_to br s ++ begun_on b u br s) ≤ fact_limit
  few_begun =
      omega (arith, length-append (cut_to br s) (begun_on b u br s), child_room its_pends.splits s.child its_pends.some_begun its_pends.some_left)

  small_begun : facts_within (cut_to br s ++ begun_on b u br s) ≡ true
  small_begun = within_append (cut_to br s) (begun_on b u br s) (within_take br s.mark ok.small) (child_within its_pends.splits s.child)

  cut_again : take s.mark (cut_to br s ++ begun_on b u br s) ≡ cut_to br s
  cut_again = take_at (cut_to br s) (begun_on b u br s) s.mark length_cut

  pend_begun : (t : Bool)
      → ltb s.child s.last ≡ t
      → AllPend b u (cut_to br s ++ begun_on b u br s) (cond t (split s.mark s.at (s.child + 1) s.last ∷ ss) ss)
  unfolding AllPend
  pend_begun true e =
      let more : s.child < s.last = ltb-true s.child s.last e in
      let here : Pends b u (cut_to br s ++ begun_on b u br s) (split s.mark s.at (s.child + 1) s.last) = record {
        rooted = its_pends.rooted;
        behind = omega (arith, length-append (cut_to br s) (begun_on b u br s), length_cut);
        several = its_pends.several;
        splits = subst (λ (l : Branch). Splits b u l s.at s.last) (sym cut_again) its_pends.splits;
        some_begun = omega arith;
        some_left = omega arith;
      } in
      (here, subst (λ (l : Branch). AllPend b u l ss) (sym cut_again) others_pend)
  pend_begun false e = pend_grown b u (cut_to br s) (begun_on b u br s) ss others_pend

  few_left : (t : Bool) → length (cond t (split s.mark s.at (s.child + 1) s.last ∷ ss) ss) ≤ suc (length ss)
  few_left true = omega arith
  few_left false = omega arith

  pub ok_begun : Ok b u (cut_to br s ++ begun_on b u br s) (begun_of (s ∷ ss))
  unfolding begun_of
  ok_begun = record {
    rooted = rooted_grown u (cut_to br s) (begun_on b u br s) (rooted_cut u br s.mark its_pends.rooted its_pends.behind ok.rooted);
    few = few_begun;
    small = small_begun;
    few_pending = omega (arith, few_left (ltb s.child s.last), ok.few_pending);
    pend = pend_begun (ltb s.child s.last) refl;
  }
