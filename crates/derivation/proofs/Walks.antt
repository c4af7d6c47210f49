-- The code's moves are the walk's: entering a split, and cutting back to the last pending one.
use Prim.Native.Nat.{ℕ, ◌+◌, ◌≤◌, ◌<◌}
use native.Mathlib.Omega.{arith}
use native.Mathlib.Numerals.{add-one}
use mathlib.Core.Path.{◌≡◌, refl, sym, ◌∙◌, ap, ap₂}
use mathlib.Core.Bool.{Bool, true, false, cond}
use mathlib.Core.List.{List, [], ◌∷◌, ◌++◌}
use lib.ListN.{length, drop, drop_of_length-le}
use lib.Seq.{take-append_seam, take_at}
use lib.Dec.{ltb}
use borrow.Author.Tests.{ltb-true, ltb-false}
use Rattle.calculus.specs.Facts.{Question, Fact, Branch}
use Rattle.calculus.specs.Children.{child_at}
use Rattle.calculus.specs.Walk.{Walk, working, wait, cut_back, enter}
use Rattle.format.specs.Checking.{or_none}
use Rattle.branch.specs.declared.Split.{Split}
use Rattle.branch.specs.Stack.{split, begun_of}
use Rattle.derivation.specs.State.{children_on, child_on, waiting_on, waitings, walk_of}
use Rattle.derivation.specs.Ok.{Splits, AllPend, Ok}
use Rattle.derivation.proofs.Children.{next_child, its_all, child_of}
use Rattle.derivation.proofs.Pending.{cut_to, begun_on, waitings_grown, its_pends, length_cut}

-- ---- the first child of a split is begun

module _ (b : List ℕ) (u : Question) (br : Branch) (ss : List Split) (at n : ℕ) (ok : Ok b u br ss) (sp : Splits b u br at n) where
  abbrev entered : List (List Fact) → Walk Branch (List Fact)
  entered cs = enter ◌++◌ br cs (waitings b u br ss)

  abbrev first : List Fact
  first = child_on b u br at 1

  one_more : (cs : List (List Fact)) → length cs ≡ 1 → working (br ++ or_none (child_at cs 1)) (waitings b u br ss) ≡ entered cs
  one_more [] e = absurd (omega arith)
  one_more (c ∷ []) e = refl
  one_more (c ∷ d ∷ cs) e = absurd (omega arith)

  -- its only child
  pub entered_one : n ≡ 1 → walk_of b u (br ++ first) ss ≡ entered (children_on b u br at)
  entered_one h =
      ap (working (br ++ first)) (waitings_grown b u br first ss ok.pend)
      ∙ ap (λ (c : List Fact). working (br ++ c) (waitings b u br ss)) (child_of sp 1)
      ∙ one_more sp.its_children (sp.number ∙ h)
      ∙ sym (ap entered (its_all sp))

  two_more : (cs : List (List Fact)) → 2 ≤ length cs
      → working (br ++ or_none (child_at cs 1)) (record { mark = br; child = or_none (child_at cs 2); rest = drop 2 cs } ∷ waitings b u br ss) ≡ entered cs
  two_more [] h = absurd (omega arith)
  two_more (c ∷ []) h = absurd (omega arith)
  two_more (c ∷ d ∷ cs) h = refl

  -- the split is pending
  pub entered_more : 2 ≤ n → walk_of b u (br ++ first) (split (length br) at 2 n ∷ ss) ≡ entered (children_on b u br at)
  unfolding waitings
  entered_more h =
      let s : Split = split (length br) at 2 n in
      ap (λ (l : Branch). working (br ++ first) (waiting_on b u l s ∷ waitings b u l ss)) (take-append_seam br first)
      ∙ ap₂ (λ (c d : List Fact). working (br ++ c) (record { mark = br; child = d; rest = drop 2 (children_on b u br at) } ∷ waitings b u br ss))
      (child_of sp 1) (child_of sp 2)
      ∙ ap (λ (cs : List (List Fact)). working (br ++ or_none (child_at sp.its_children 1))
      (record { mark = br; child = or_none (child_at sp.its_children 2); rest = drop 2 cs } ∷ waitings b u br ss))
      (its_all sp)
      ∙ two_more sp.its_children (omega (arith, sp.number))
      ∙ sym (ap entered (its_all sp))

-- ---- the next child of the last pending split is begun

module _ (b : List ℕ) (u : Question) (br : Branch) (s : Split) (ss : List Split) (ok : Ok b u br (s ∷ ss)) where
  its_splits : Splits b u (cut_to br s) s.at s.last
  its_splits = (its_pends b u br s ss ok).splits

  abbrev left : List (List Fact)
  left = drop s.child (children_on b u (cut_to br s) s.at)

  left_more : s.child < length its_splits.its_children
      → left ≡ child_on b u (cut_to br s) s.at (s.child + 1) ∷ drop (s.child + 1) (children_on b u (cut_to br s) s.at)
  left_more h =
      ap (drop s.child) (its_all its_splits)
      ∙ next_child its_splits.its_children s.child h
      ∙ ap (λ (k : ℕ). or_none (child_at its_splits.its_children k) ∷ drop k its_splits.its_children) (sym (add-one s.child))
      ∙ ap₂ ◌∷◌ (sym (child_of its_splits (s.child + 1))) (ap (drop (s.child + 1)) (sym (its_all its_splits)))

  left_none : length its_splits.its_children ≤ s.child → left ≡ []
  left_none h = ap (drop s.child) (its_all its_splits) ∙ drop_of_length-le its_splits.its_children h

  begun_left : (t : Bool) → ltb s.child s.last ≡ t
      → waitings b u (cut_to br s ++ begun_on b u br s) (cond t (split s.mark s.at (s.child + 1) s.last ∷ ss) ss)
      ≡ wait (cut_to br s) left (waitings b u (cut_to br s) ss)
  unfolding waitings AllPend
  begun_left true e =
      let more : s.child < length its_splits.its_children = omega (arith, ltb-true s.child s.last e, its_splits.number) in
      let next : left ≡ child_on b u (cut_to br s) s.at (s.child + 1) ∷ drop (s.child + 1) (children_on b u (cut_to br s) s.at) = left_more more in
      ap (λ (l : Branch). waiting_on b u l (split s.mark s.at (s.child + 1) s.last) ∷ waitings b u l ss)
      (take_at (cut_to br s) (begun_on b u br s) s.mark (length_cut b u br s ss ok))
      ∙ sym (ap (λ (cs : List (List Fact)). wait (cut_to br s) cs (waitings b u (cut_to br s) ss)) next)
  begun_left false e =
      let none : left ≡ [] = left_none (omega (arith, ltb-false s.child s.last e, its_splits.number)) in
      waitings_grown b u (cut_to br s) (begun_on b u br s) ss ok.pend.1
      ∙ sym (ap (λ (cs : List (List Fact)). wait (cut_to br s) cs (waitings b u (cut_to br s) ss)) none)

  pub cut_back_law : walk_of b u (cut_to br s ++ begun_on b u br s) (begun_of (s ∷ ss)) ≡ cut_back ◌++◌ (waitings b u br (s ∷ ss))
  unfolding waitings begun_of
  cut_back_law = ap (working (cut_to br s ++ begun_on b u br s)) (begun_left (ltb s.child s.last) refl)
