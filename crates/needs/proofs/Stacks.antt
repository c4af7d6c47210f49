-- The pending splits in their array: what a store leaves, and where a step leads by them.
use Prim.Native.Nat.{ℕ, zero, suc, ◌+◌, ◌-◌, ◌≤◌, ◌<◌}
use native.Mathlib.Omega.{arith}
use native.Mathlib.Numerals.{add-one}
use mathlib.Core.Path.{◌≡◌, refl, sym, ◌∙◌, ap, subst}
use mathlib.Core.List.{List, [], ◌∷◌}
use mathlib.Core.Bool.{true}
use mathlib.Core.Option
use lib.ListN.{length, get_or, get_elem?, set, replicate}
use lib.Seq.{get_or-set_same, get_or-set_other}
use borrow.Author.Tests.{leb-true}
use Rattle.lists.specs.Lists.{All}
use Rattle.lists.proofs.Lists.{down}
use Rattle.lists.proofs.Tests.{and_both}
use Rattle.calculus.specs.Children.{child_at}
use Rattle.calculus.specs.Walk.{Waiting, working, closed, wait, cut_back, enter}
use Rattle.calculus.proofs.Shapes.{Alike}
use Rattle.format.specs.StepForms.{is_child}
use Rattle.needs.specs.declared.Split.{Split}
use Rattle.needs.specs.Pending.{waiting, no_split, last_first}

-- a store at or above n leaves the first n
first_set : (n : ℕ) (l : List Split) (i : ℕ) (s : Split) → n ≤ i → last_first n (set l i s) ≡ last_first n l
unfolding last_first
first_set zero l i s h = refl
first_set (suc n) l i s h = rw (get_or-set_other l i n s no_split (λ e. omega arith), first_set n l i s (omega arith))

-- one more on top
pub first_push : (n : ℕ) (l : List Split) (s : Split) → n < length l → last_first (n + 1) (set l n s) ≡ waiting s ∷ last_first n l
unfolding last_first
first_push n l s h = rw (add-one, get_or-set_same l n s no_split h, first_set n l n s (omega arith))

pub length-last_first : (n : ℕ) (l : List Split) → length (last_first n l) ≡ n
unfolding last_first
length-last_first zero l = refl
length-last_first (suc n) l = ap suc (length-last_first n l)

-- ---- the branch is cut back

module _ (l : List Split) where
  pub cut_none : (n : ℕ) → n ≡ 0 → closed ≡ cut_back ◌+◌ (last_first n l)
  unfolding last_first
  cut_none zero e = refl
  cut_none (suc n) e = absurd (omega arith)

  -- the last split
  abbrev last : ℕ → Split
  last n = get_or l n no_split

  -- with so many children after the next
  abbrev after : ℕ → ℕ → Split
  after n k = record { mark = (last n).mark; facts = (last n).facts; more = k }

  begins : (n k : ℕ) → (last n).more ≡ k
      → working ((last n).mark + (last n).facts) (wait (last n).mark (replicate k (last n).facts) (last_first n l)) ≡ cut_back ◌+◌ (last_first (suc n) l)
  unfolding last_first
  begins n k e = rw e refl

  -- its last child begins
  pub cut_last : (n : ℕ) → (n ≡ 0 → ⊥) → (last (n - 1)).more ≡ 0
      → working ((last (n - 1)).mark + (last (n - 1)).facts) (last_first (n - 1) l) ≡ cut_back ◌+◌ (last_first n l)
  cut_last zero x e = absurd (x refl)
  cut_last (suc n) x e = rw (down n) (begins n 0 (subst (λ k. (last k).more ≡ 0) (down n) e))

  -- another child of it does
  pub cut_more : (n : ℕ) → (n ≡ 0 → ⊥) → ((last (n - 1)).more ≡ 0 → ⊥) → n - 1 < length l
      → working ((last (n - 1)).mark + (last (n - 1)).facts)
      (last_first n (set l (n - 1) (after (n - 1) ((last (n - 1)).more - 1))))
      ≡ cut_back ◌+◌ (last_first n l)
  cut_more zero x y h = absurd (x refl)
  cut_more (suc n) x y h =
      subst (λ k. ((last k).more ≡ 0 → ⊥) → k < length l
      → working ((last k).mark + (last k).facts) (last_first (suc n) (set l k (after k ((last k).more - 1))))
      ≡ cut_back ◌+◌ (last_first (suc n) l)) (sym (down n)) (go (last n).more refl) y h
    where
      go : (k : ℕ) → (last n).more ≡ k → ((last n).more ≡ 0 → ⊥) → n < length l
          → working ((last n).mark + (last n).facts) (last_first (suc n) (set l n (after n ((last n).more - 1)))) ≡ cut_back ◌+◌ (last_first (suc n) l)
      go zero e y h = absurd (y e)
      go (suc k) e y h =
          ap (working ((last n).mark + (last n).facts))
          (ap (λ j. last_first j (set l n (after n ((last n).more - 1)))) (sym (add-one n)) ∙ first_push n l (after n ((last n).more - 1)) h)
          ∙ ap (λ j. working ((last n).mark + (last n).facts) (waiting (after n j) ∷ last_first n l)) (ap (λ j. j - 1) e ∙ down k)
          ∙ begins n (suc k) e

-- ---- a step is entered

module _ (f : ℕ) (ss : List (Waiting ℕ ℕ)) where
  pub enter_none : (cs : List ℕ) → length cs ≡ 0 → cut_back ◌+◌ ss ≡ enter ◌+◌ f cs ss
  enter_none [] e = refl
  enter_none (c ∷ cs) e = absurd (omega arith)

  pub enter_one : (cs : List ℕ) → length cs ≡ 1 → working (f + get_or cs 0 0) ss ≡ enter ◌+◌ f cs ss
  enter_one [] e = absurd (omega arith)
  enter_one (c ∷ []) e = refl
  enter_one (c ∷ d ∷ ds) e = absurd (omega arith)

  pub enter_more : (cs : List ℕ) → Alike cs → 2 ≤ length cs → working (f + get_or cs 0 0) (waiting (record { mark = f; facts = get_or cs 1 0; more = length cs - 2 }) ∷ ss) ≡ enter ◌+◌ f cs ss
  enter_more [] a h = absurd (omega arith)
  enter_more (c ∷ []) a h = absurd (omega arith)
  enter_more (c ∷ d ∷ ds) a h =
      let left : suc (suc (length ds)) - 2 ≡ length ds = omega arith in
      ap (λ (rs : List ℕ). working (f + c) (record { mark = f; child = d; rest = rs } ∷ ss)) (ap (λ k. replicate k d) left ∙ sym a)

-- ---- a child is taken

element_there : (cs : List ℕ) (j : ℕ) → j < length cs → get_or cs j 0 ≡ Option.get_or (get_elem? cs j) 0
element_there [] j h = absurd (omega arith)
element_there (c ∷ cs) zero h = refl
element_there (c ∷ cs) (suc j) h = element_there cs j (omega arith)

pub taken_some : (cs : List ℕ) (k : ℕ) → 1 ≤ k → k ≤ length cs → get_or cs (k - 1) 0 ≡ Option.get_or (child_at cs k) 0
taken_some cs zero l h = absurd (omega arith)
taken_some cs (suc j) l h = ap (λ i. get_or cs i 0) (down j) ∙ element_there cs j (omega arith)

-- it adds no more than each may
pub taken_small : (cs : List ℕ) (k n : ℕ) → All (λ c. c ≤ n) cs → Option.get_or (child_at cs k) 0 ≤ n
taken_small cs zero n h = omega arith
taken_small cs (suc j) n h = go cs j h
  where
    go : (cs : List ℕ) (j : ℕ) → All (λ c. c ≤ n) cs → Option.get_or (get_elem? cs j) 0 ≤ n
    go [] j h = omega arith
    go (c ∷ cs) zero (l, h) = l
    go (c ∷ cs) (suc j) (l, h) = go cs j h

-- a rule that closes has no child
pub taken_none : (cs : List ℕ) (k : ℕ) → length cs ≡ 0 → Option.get_or (child_at cs k) 0 ≡ 0
taken_none [] zero e = refl
taken_none [] (suc k) e = refl
taken_none (c ∷ cs) k e = absurd (omega arith)

-- a child number in range, where there are children
pub child_numbered : (cs : List ℕ) (k : ℕ) → is_child cs k ≡ true → (length cs ≡ 0 → ⊥) → (1 ≤ k) × (k ≤ length cs)
child_numbered [] k e n = absurd (n refl)
child_numbered (c ∷ cs) k e n = let (l, h) = and_both _ _ e in (leb-true _ _ l, leb-true _ _ h)
