-- The constraints that a derivation rests on have no solution, whatever the others say; and they are constraints of the question.
use Prim.Native.Nat.{ℕ, zero, suc, ◌+◌, ◌≤◌}
use native.Mathlib.Omega.{arith}
use mathlib.Core.Path.{◌≡◌, refl, sym, ◌∙◌, ap, ap₂, subst}
use mathlib.Core.Logic.{◌⊎◌, inl, inr}
use mathlib.Core.Bool.{Bool, true, false, cond, and-true, false≢true}
use mathlib.Core.Option
use mathlib.Core.Option.{Option, none, some}
use mathlib.Core.List.{List, [], ◌∷◌, ◌++◌, map, map-append, map-map, map-id}
use lib.ListN.{length, get_or}
use lib.IntN.{ℤ, pos}
use lib.Signed.{◌≤ℤ◌, ≤ℤ_refl}
use Rattle.lists.specs.Lists.{All, Any, Distinct}
use Rattle.lists.proofs.Lists.{all_append}
use Rattle.calculus.specs.Facts.{Question, Fact, Branch, len, column_of}
use Rattle.calculus.specs.Steps.{Step, Sum, BranchOn, Apart, AConf, SConf, SProp, LIntro, LValid, CCollapse, CValid, CInj, Card, Join}
use Rattle.calculus.specs.Rules.{lowest_difference}
use Rattle.calculus.specs.Walk.{Waiting, Walk, working, closed, wait, cut_back, enter}
use Rattle.calculus.specs.Cores.{Set, only, union, chosen_from, Rested, facts, rooted_from, resting, set_at, named_sets, sets_of, found_set}
use Rattle.calculus.specs.Cores.{equates, separates, lengths_set, neighbour_sets, rests_on, of_closing, children_of, enter_resting, core_from, core_in}
use Rattle.calculus.specs.Instances.{Instance, IsStep}
use Rattle.calculus.specs.Meaning.{Assignment, IsAssignment, Meets, Met, columns}
use Rattle.calculus.specs.InRange.{HeadInRange, FactsInRange}
use Rattle.calculus.proofs.Fits.{fits→instance}
use Rattle.calculus.proofs.LinearForms.{dot_number}
use Rattle.calculus.proofs.Sound.{AnyMet, instance_sound}
use Rattle.calculus.proofs.Leads.{Arrives, working_open}
use Rattle.calculus.proofs.Walks.{State, Walked, StateInRange, step_in_range}
use Rattle.calculus.proofs.Everywhere.{Everywhere, enter_everywhere}
use Rattle.calculus.proofs.Kept.{within, within_both, within_itself, nothing_said, keep_one, keep, kept_one, instance_kept}

-- ---- a walk over facts with sets, and over the facts alone

pub facts_append : (r s : Rested) → facts (r ++ s) ≡ facts r ++ facts s
facts_append r s = map-append (λ (f : Fact × Set). f.0) r s

pub facts_resting : (s : Set) (c : List Fact) → facts (resting s c) ≡ c
facts_resting s c = map-map (λ (f : Fact × Set). f.0) (λ (f : Fact). (f, s)) c ∙ map-id c

pub facts_rooted : (k : ℕ) (b : Branch) → facts (rooted_from k b) ≡ b
unfolding rooted_from
facts_rooted k [] = refl
facts_rooted k (f ∷ b) = ap (λ l. f ∷ l) (facts_rooted (suc k) b)

all_resting : (s : Set) (cs : List (List Fact)) → map facts (map (resting s) cs) ≡ cs
all_resting s [] = refl
all_resting s (c ∷ cs) = ap₂ (λ x xs. x ∷ xs) (facts_resting s c) (all_resting s cs)

abbrev erase_waiting : Waiting Rested Rested → Waiting Branch (List Fact)
erase_waiting s = record { mark = facts s.mark; child = facts s.child; rest = map facts s.rest }

abbrev erase : Walk Rested Rested → State
erase (working r ss) = working (facts r) (map erase_waiting ss)
erase closed = closed

erase_wait : (r : Rested) (cs : List Rested) (ss : List (Waiting Rested Rested)) → map erase_waiting (wait r cs ss) ≡ wait (facts r) (map facts cs) (map erase_waiting ss)
erase_wait r [] ss = refl
erase_wait r (c ∷ cs) ss = refl

erase_enter : (r : Rested) (cs : List Rested) (ss : List (Waiting Rested Rested))
    → erase (enter ◌++◌ r cs ss) ≡ enter ◌++◌ (facts r) (map facts cs) (map erase_waiting ss)
erase_enter r [] [] = refl
erase_enter r [] (s ∷ ss) =
    ap₂ (λ (b : Branch) (p : List (Waiting Branch (List Fact))). working b p) (facts_append s.mark s.child) (erase_wait s.mark s.rest ss)
erase_enter r (c ∷ cs) ss = ap₂ (λ (b : Branch) (p : List (Waiting Branch (List Fact))). working b p) (facts_append r c) (erase_wait r cs ss)

-- ---- an assignment that meets what a set keeps

module _ (u : Question) (c : Set) (a : Assignment) where
  abbrev Kept : Rested → Type 0
  Kept r = Met u a (keep c r)

  abbrev KeptSome : List Rested → Type 0
  KeptSome cs = Any Kept cs

  -- a child not yet begun is met on the branch at its split's mark
  abbrev Hopes : Waiting Rested Rested → Type 0
  Hopes s = Kept s.mark × KeptSome (s.child ∷ s.rest)

  -- the branch is met, or one that begins later
  abbrev Alive : Walk Rested Rested → Type 0
  Alive (working r ss) = Kept r ⊎ Any Hopes ss
  Alive closed = ⊥

  both_kept : (r s : Rested) → Kept r → Kept s → Kept (r ++ s)
  both_kept r s m n = subst (Met u a) (sym (map-append (keep_one c) r s)) (all_append (Meets u a) (keep c r) (keep c s) m n)

  wait_hopes : (r : Rested) (cs : List Rested) (ss : List (Waiting Rested Rested)) → (Kept r × KeptSome cs) ⊎ Any Hopes ss → Any Hopes (wait r cs ss)
  wait_hopes r [] ss (inl (m, h)) = absurd h
  wait_hopes r [] ss (inr h) = h
  wait_hopes r (d ∷ cs) ss (inl h) = inl h
  wait_hopes r (d ∷ cs) ss (inr h) = inr h

  cut_alive : (ss : List (Waiting Rested Rested)) → Any Hopes ss → Alive (cut_back ◌++◌ ss)
  cut_alive [] h = h
  cut_alive (s ∷ ss) (inl (m, inl d)) = inl (both_kept s.mark s.child m d)
  cut_alive (s ∷ ss) (inl (m, inr ds)) = inr (wait_hopes s.mark s.rest ss (inl (m, ds)))
  cut_alive (s ∷ ss) (inr h) = inr (wait_hopes s.mark s.rest ss (inr h))

  enter_alive : (r : Rested) (cs : List Rested) (ss : List (Waiting Rested Rested)) → (Kept r × KeptSome cs) ⊎ Any Hopes ss → Alive (enter ◌++◌ r cs ss)
  enter_alive r [] ss (inl (m, h)) = absurd h
  enter_alive r [] ss (inr h) = cut_alive ss h
  enter_alive r (d ∷ cs) ss (inl (m, inl k)) = inl (both_kept r d m k)
  enter_alive r (d ∷ cs) ss (inl (m, inr ks)) = inr (wait_hopes r cs ss (inl (m, ks)))
  enter_alive r (d ∷ cs) ss (inr h) = inr (wait_hopes r cs ss (inr h))

  -- a child that rests within the set is kept whole; of any other nothing is said

  nothing_met : Meets u a nothing_said
  nothing_met = subst (λ z. pos 0 ≤ℤ z) (sym (dot_number (columns a) (pos 0))) (≤ℤ_refl (pos 0))

  kept_child : (s : Set) (d : List Fact) → within s c ≡ true → Met u a d → Kept (resting s d)
  kept_child s [] w m = tt
  kept_child s (f ∷ d) w (m, ms) = (subst (Meets u a) (sym (kept_one c (f, s) w)) m, kept_child s d w ms)

  dropped_child : (s : Set) (d : List Fact) → within s c ≡ false → Kept (resting s d)
  dropped_child s [] w = tt
  dropped_child s (f ∷ d) w = (subst (λ x. Meets u a (cond x f nothing_said)) (sym w) nothing_met, dropped_child s d w)

  kept_some : (s : Set) (cs : List (List Fact)) → within s c ≡ true → AnyMet u a cs → KeptSome (map (resting s) cs)
  kept_some s [] w h = h
  kept_some s (d ∷ cs) w (inl m) = inl (kept_child s d w m)
  kept_some s (d ∷ cs) w (inr m) = inr (kept_some s cs w m)

module _ (u : Question) (w : HeadInRange u) (d : Distinct ([] ∷ u.literals)) (c : Set) (a : Assignment) (f : IsAssignment u a) where
  -- a step that closes its branch rests within c; so what is met before a step is met after it
  step_kept : (r : Rested) (st : Step) (cs : List (List Fact)) → IsStep u st → Instance u (facts r) st cs
      → within (of_closing cs (rests_on u r st)) c ≡ true
      → Kept u c a r → KeptSome u c a (map (resting (rests_on u r st)) cs)
  step_kept r st cs g i q m = go (within (rests_on u r st) c) refl cs i q
    where
      go : (x : Bool) → within (rests_on u r st) c ≡ x → (cs : List (List Fact)) → Instance u (facts r) st cs → within (of_closing cs (rests_on u r st)) c ≡ true
          → KeptSome u c a (map (resting (rests_on u r st)) cs)
      go true e cs i q = kept_some u c a (rests_on u r st) cs e (instance_sound u a f d (keep c r) st cs g (instance_kept u c r st cs e i) m)
      go false e [] i q = absurd (false≢true (sym e ∙ q))
      go false e (k ∷ cs) i q = inl (dropped_child u c a (rests_on u r st) k e)

  step_alive : (r : Rested) (st : Step) (cs : List (List Fact)) (ss : List (Waiting Rested Rested)) → IsStep u st → Instance u (facts r) st cs
      → within (of_closing cs (rests_on u r st)) c ≡ true
      → Alive u c a (working r ss) → Alive u c a (enter_resting u r st cs ss)
  step_alive r st cs ss g i q (inl m) = enter_alive u c a r (map (resting (rests_on u r st)) cs) ss (inl (m, step_kept r st cs g i q m))
  step_alive r st cs ss g i q (inr h) = enter_alive u c a r (map (resting (rests_on u r st)) cs) ss (inr h)

  core_sound : (sts : List Step) (k : Walk Rested Rested) → StateInRange u (erase k) → All (IsStep u) sts → Walked u (erase k) sts
      → within (core_from u k sts) c ≡ true → Alive u c a k → ⊥
  unfolding Arrives core_from
  core_sound [] closed r g h q l = l
  core_sound [] (working b ss) r g h q l = working_open (facts b) (map erase_waiting ss) h
  core_sound (st ∷ sts) closed r g h q l = l
  core_sound (st ∷ sts) (working b ss) r (g, gs) (cs, e, h) q l =
      let i : Instance u (facts b) st cs = fits→instance u w (facts b) r.0 st g e in
      let same : children_of u b st ≡ cs = ap (λ o. Option.get_or o []) e in
      let k : Walk Rested Rested = enter_resting u b st cs ss in
      let (now, later) = within_both (of_closing cs (rests_on u b st)) (core_from u k sts) c
      (subst (λ ks. within (union (of_closing ks (rests_on u b st)) (core_from u (enter_resting u b st ks ss) sts)) c ≡ true) same q) in
      let erased : erase k ≡ enter ◌++◌ (facts b) cs (map erase_waiting ss) =
      erase_enter b (map (resting (rests_on u b st)) cs) ss ∙ ap (λ ks. enter ◌++◌ (facts b) ks (map erase_waiting ss)) (all_resting (rests_on u b st) cs) in
      core_sound sts k
      (subst (StateInRange u) (sym erased) (step_in_range u w (facts b) st cs (map erase_waiting ss) r g i))
      gs (subst (λ k. Walked u k sts) (sym erased) h) later (step_alive b st cs ss g i now l)

-- ---- the question's constraints

within_only : (k : ℕ) (c : Set) → within (only k) c ≡ get_or c k false
unfolding within
within_only zero [] = refl
within_only zero (x ∷ c) = and-true x
within_only (suc k) [] = within_only k []
within_only (suc k) (x ∷ c) = within_only k c

rooted_kept : (u : Question) (c : Set) (a : Assignment) (k : ℕ) (b : Branch) → Met u a (chosen_from k c b) → Kept u c a (rooted_from k b)
unfolding rooted_from chosen_from
rooted_kept u c a k [] m = tt
rooted_kept u c a k (f ∷ b) m = go (get_or c k false) (within_only k c) (rooted_kept u c a (suc k) b) m
  where
    go : (x : Bool) → within (only k) c ≡ x → (Met u a (chosen_from (suc k) c b) → Kept u c a (rooted_from (suc k) b))
        → Met u a (cond x (f ∷ chosen_from (suc k) c b) (chosen_from (suc k) c b))
        → Meets u a (keep_one c (f, only k)) × Kept u c a (rooted_from (suc k) b)
    go true e ih (m, ms) = (subst (Meets u a) (sym (kept_one c (f, only k) e)) m, ih ms)
    go false e ih ms = (subst (λ x. Meets u a (cond x f nothing_said)) (sym e) (nothing_met u c a), ih ms)

-- those in the core alone are met by no assignment
pub core_unsolvable : (u : Question) (sts : List Step) → HeadInRange u → Distinct ([] ∷ u.literals) → FactsInRange u u.constraints
    → All (IsStep u) sts
    → Walked u (working u.constraints []) sts
    → (a : Assignment) → IsAssignment u a → Met u a (chosen_from 0 (core_in u sts) u.constraints) → ⊥
core_unsolvable u sts w d r g h a f m =
    let e : facts (rooted_from 0 u.constraints) ≡ u.constraints = facts_rooted 0 u.constraints in
    core_sound u w d (core_in u sts) a f sts (working (rooted_from 0 u.constraints) []) (subst (FactsInRange u) (sym e) r, tt) g
    (subst (λ (b : Branch). Walked u (working b []) sts) (sym e) h) (within_itself (core_in u sts)) (inl (rooted_kept u (core_in u sts) a 0 u.constraints m))

-- ---- no number in a set reaches n

abbrev pub Short : ℕ → Set → Type 0
Short n s = length s ≤ n

union_short : (n : ℕ) (s t : Set) → Short n s → Short n t → Short n (union s t)
unfolding union
union_short n [] t h g = g
union_short n (x ∷ s) [] h g = h
union_short zero (x ∷ s) (y ∷ t) h g = omega arith
union_short (suc n) (x ∷ s) (y ∷ t) h g = omega (arith, union_short n s t (omega arith) (omega arith))

pub length_only : (k : ℕ) → length (only k) ≡ suc k
length_only zero = refl
length_only (suc k) = ap suc (length_only k)

module _ (n : ℕ) where
  abbrev ShortSets : Rested → Type 0
  ShortSets r = All (λ f. Short n f.1) r

  rooted_short : (k : ℕ) (b : Branch) → k + length b ≤ n → ShortSets (rooted_from k b)
  unfolding rooted_from
  rooted_short k [] h = tt
  rooted_short k (f ∷ b) h = (omega (arith, length_only k), rooted_short (suc k) b (omega arith))

  resting_short : (s : Set) (c : List Fact) → Short n s → ShortSets (resting s c)
  resting_short s [] h = tt
  resting_short s (f ∷ c) h = (h, resting_short s c h)

  at_short : (r : Rested) (k : ℕ) → ShortSets r → Short n (set_at r k)
  at_short [] k h = omega arith
  at_short (f ∷ r) zero (h, hs) = h
  at_short (f ∷ r) (suc k) (h, hs) = at_short r k hs

  found_short : (r : Rested) (o : Option ℕ) → ShortSets r → Short n (found_set r o)
  found_short r none h = omega arith
  found_short r (some k) h = at_short r k h

  named_short : (r : Rested) (ts : List (ℕ × ℤ)) → ShortSets r → Short n (named_sets r ts)
  unfolding named_sets
  named_short r [] h = omega arith
  named_short r (t ∷ ts) h = union_short n (set_at r t.0) (named_sets r ts) (at_short r t.0 h) (named_short r ts h)

  chosen_short : (x : Bool) (s : Set) → Short n s → Short n (cond x s [])
  chosen_short true s h = h
  chosen_short false s h = omega arith

  sets_short : (t : Fact → Bool) (r : Rested) → ShortSets r → Short n (sets_of t r)
  unfolding sets_of
  sets_short t [] h = omega arith
  sets_short t (f ∷ r) (h, hs) = union_short n (cond (t f.0) f.1 []) (sets_of t r) (chosen_short (t f.0) f.1 h) (sets_short t r hs)

  module _ (u : Question) where
    neighbours_short : (r : Rested) (x : ℕ) (ys : List ℕ) → ShortSets r → Short n (neighbour_sets u r x ys)
    unfolding neighbour_sets
    neighbours_short r x [] h = omega arith
    neighbours_short r x (y ∷ ys) h =
        union_short n (lengths_set u r x y) (neighbour_sets u r y ys)
        (found_short r (lowest_difference (facts r) (column_of u len x) (column_of u len y)) h) (neighbours_short r y ys h)

    rests_short : (r : Rested) (st : Step) → ShortSets r → Short n (rests_on u r st)
    unfolding rests_on
    rests_short r (Sum d ts) h = named_short r ts h
    rests_short r (BranchOn e) h = omega arith
    rests_short r (Apart k) h = at_short r k h
    rests_short r (AConf k) h = at_short r k h
    rests_short r SConf h = union_short n (sets_of equates r) (sets_of separates r) (sets_short equates r h) (sets_short separates r h)
    rests_short r (SProp f x y) h = sets_short equates r h
    rests_short r (LIntro x) h = sets_short equates r h
    rests_short r (LValid x) h = omega arith
    rests_short r (CCollapse x) h = sets_short equates r h
    rests_short r (CValid x) h = omega arith
    rests_short r (CInj x y) h = omega arith
    rests_short r (Card []) h = omega arith
    rests_short r (Card (x ∷ xs)) h = neighbours_short r x xs h
    rests_short r (Join j k) h = union_short n (set_at r j) (set_at r k) (at_short r j h) (at_short r k h)

    closing_short : (cs : List (List Fact)) (s : Set) → Short n s → Short n (of_closing cs s)
    closing_short [] s h = h
    closing_short (c ∷ cs) s h = omega arith

    children_short : (r : Rested) (s : Set) (cs : List (List Fact)) → ShortSets r → Short n s → All (λ c. ShortSets (r ++ c)) (map (resting s) cs)
    children_short r s [] h g = tt
    children_short r s (c ∷ cs) h g = (all_append (λ f. Short n f.1) r (resting s c) h (resting_short s c g), children_short r s cs h g)

    core_short : (sts : List Step) (k : Walk Rested Rested) → Everywhere ◌++◌ ShortSets k → Short n (core_from u k sts)
    unfolding core_from
    core_short [] k h = omega arith
    core_short (st ∷ sts) closed h = omega arith
    core_short (st ∷ sts) (working r ss) (h, hs) =
        let cs : List (List Fact) = children_of u r st in
        let s : Set = rests_on u r st in
        union_short n (of_closing cs s) (core_from u (enter_resting u r st cs ss) sts) (closing_short cs s (rests_short r st h))
        (core_short sts (enter_resting u r st cs ss)
        (enter_everywhere ◌++◌ ShortSets r (map (resting s) cs) ss (children_short r s cs h (rests_short r st h)) hs))

-- every number in the core is that of a constraint
pub core_of_question : (u : Question) (sts : List Step) → length (core_in u sts) ≤ length u.constraints
core_of_question u sts =
    let n : ℕ = length u.constraints in
    core_short n u sts (working (rooted_from 0 u.constraints) []) (rooted_short n 0 u.constraints (omega arith), tt)
