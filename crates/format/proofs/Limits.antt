-- The tests for 9 and 10 are passed exactly where the limits hold.
use Prim.Native.Nat.{ℕ, ◌+◌, ◌<◌, ◌≤◌}
use native.Mathlib.Omega.{arith}
use mathlib.Core.Path.{◌≡◌, refl, ◌∙◌, ap₂}
use mathlib.Core.Bool.{Bool, true, false, ◌&&◌, ◌||◌}
use mathlib.Core.Option.{some}
use mathlib.Core.List.{List, [], ◌∷◌}
use lib.ListN.{length}
use lib.Dec.{leb, ltb}
use lib.IntN.{ℤ, nat_abs}
use borrow.Author.Tests.{leb-true, ltb-true, le-leb, lt-ltb, leb-false}
use Rattle.lists.proofs.Lists.{all_map, →all_true, all_true→}
use Rattle.lists.specs.Lists.{All}
use Rattle.lists.proofs.Tests.{and_both}
use Rattle.calculus.specs.Limits.{Small, number_limit, fact_limit, pending_limit}
use Rattle.calculus.specs.Facts.{Fact, same, not_same, is_literal, arithmetic, Branch}
use Rattle.calculus.specs.Derivations.{SmallFact, ChildLimits, SplitLimits}
use Rattle.format.specs.Records.{need}
use Rattle.format.specs.Checking.{fact_within, facts_within, children_within, room, room_for_all, room_to_pend, all_tried, taken_tried}
use Rattle.format.specs.Fields.{all_within, within}
use Rattle.format.proofs.Faults.{none_applies, passed}

-- ---- where the limits hold, the tests are passed

pub →within : (k : ℕ) (zs : List ℤ) → All (Small k) zs → all_within k zs ≡ true
unfolding all_within
→within k zs h = →all_true (within k) zs (λ z. le-leb (nat_abs z) k) h

fact_within_law : (f : Fact) → SmallFact f → fact_within f ≡ true
fact_within_law (same x y) h = refl
fact_within_law (not_same x y) h = refl
fact_within_law (is_literal x l) h = refl
fact_within_law (arithmetic r e) h = →within number_limit e h

pub facts_within_law : (c : List Fact) → All SmallFact c → facts_within c ≡ true
unfolding facts_within
facts_within_law c h = →all_true fact_within c fact_within_law h

pub small_within : (cs : List (List Fact)) → All (All SmallFact) cs → children_within cs ≡ true
unfolding children_within
small_within cs h = →all_true facts_within cs facts_within_law h

children_within_law : (b : Branch) (cs : List (List Fact)) → All (ChildLimits b) cs → children_within cs ≡ true
children_within_law b cs h = small_within cs (all_map cs (λ c l. l.numbers) h)

room_for_all_law : (b : Branch) (cs : List (List Fact)) → All (ChildLimits b) cs → room_for_all (length b) cs ≡ true
unfolding room_for_all
room_for_all_law b cs h = →all_true (room (length b)) cs (λ c l. le-leb (length b + length c) fact_limit l.facts) h

room_to_pend_law : (k : ℕ) (cs : List (List Fact)) → (2 ≤ length cs → k < pending_limit) → room_to_pend k cs ≡ true
room_to_pend_law k cs h = go (leb (length cs) 1) refl
  where
    go : (t : Bool) → leb (length cs) 1 ≡ t → (t || ltb k pending_limit) ≡ true
    go true e = refl
    go false e = let g : 1 < length cs = leb-false (length cs) 1 e in lt-ltb k pending_limit (h (omega arith))

pub limits→tried : (b : Branch) (k : ℕ) (cs : List (List Fact)) → SplitLimits b k cs → all_tried b k (some cs) ≡ 0
limits→tried b k cs l =
    passed 9 (children_within cs) (need 10 (room_for_all (length b) cs && room_to_pend k cs) 0) (children_within_law b cs l.children)
    ∙ passed 10 (room_for_all (length b) cs && room_to_pend k cs) 0 (ap₂ ◌&&◌ (room_for_all_law b cs l.children) (room_to_pend_law k cs l.splits))

pub limits→taken : (b : Branch) (c : List Fact) → ChildLimits b c → taken_tried b (some c) ≡ 0
limits→taken b c l =
    passed 9 (facts_within c) (need 10 (room (length b) c) 0) (facts_within_law c l.numbers)
    ∙ passed 10 (room (length b) c) 0 (le-leb (length b + length c) fact_limit l.facts)

-- ---- and only there

pub within→ : (k : ℕ) (zs : List ℤ) → all_within k zs ≡ true → All (Small k) zs
unfolding all_within
within→ k zs t = all_true→ (within k) zs (λ z. leb-true (nat_abs z) k) t

fact_within→ : (f : Fact) → fact_within f ≡ true → SmallFact f
fact_within→ (same x y) t = tt
fact_within→ (not_same x y) t = tt
fact_within→ (is_literal x l) t = tt
fact_within→ (arithmetic r e) t = within→ number_limit e t

pub facts_within→ : (c : List Fact) → facts_within c ≡ true → All SmallFact c
unfolding facts_within
facts_within→ c t = all_true→ fact_within c fact_within→ t

pub small_within→ : (cs : List (List Fact)) → children_within cs ≡ true → All (All SmallFact) cs
unfolding children_within
small_within→ cs t = all_true→ facts_within cs facts_within→ t

child_limits→ : (b : Branch) (c : List Fact) → facts_within c ≡ true → room (length b) c ≡ true → ChildLimits b c
child_limits→ b c n r = record { numbers = facts_within→ c n; facts = leb-true (length b + length c) fact_limit r }

children_limits→ : (b : Branch) (cs : List (List Fact)) → children_within cs ≡ true → room_for_all (length b) cs ≡ true → All (ChildLimits b) cs
unfolding children_within room_for_all
children_limits→ b [] s t = tt
children_limits→ b (c ∷ cs) s t =
    let (n, ns) = and_both (facts_within c) (children_within cs) s in
    let (r, rs) = and_both (room (length b) c) (room_for_all (length b) cs) t in
    (child_limits→ b c n r, children_limits→ b cs ns rs)

room_to_pend→ : (k : ℕ) (cs : List (List Fact)) → room_to_pend k cs ≡ true → 2 ≤ length cs → k < pending_limit
room_to_pend→ k cs t h = go (leb (length cs) 1) refl t
  where
    go : (x : Bool) → leb (length cs) 1 ≡ x → (x || ltb k pending_limit) ≡ true → k < pending_limit
    go true e t = absurd (let g : length cs ≤ 1 = leb-true (length cs) 1 e in omega arith)
    go false e t = ltb-true k pending_limit t

pub tried→limits : (b : Branch) (k : ℕ) (cs : List (List Fact)) → all_tried b k (some cs) ≡ 0 → SplitLimits b k cs
tried→limits b k cs e =
    let a9 = none_applies 8 (children_within cs) (need 10 (room_for_all (length b) cs && room_to_pend k cs) 0) e in
    let (r, p) = and_both (room_for_all (length b) cs) (room_to_pend k cs) (none_applies 9 (room_for_all (length b) cs && room_to_pend k cs) 0 a9.1).0 in
    record { children = children_limits→ b cs a9.0 r; splits = room_to_pend→ k cs p }

pub taken→limits : (b : Branch) (c : List Fact) → taken_tried b (some c) ≡ 0 → ChildLimits b c
taken→limits b c e =
    let a9 = none_applies 8 (facts_within c) (need 10 (room (length b) c) 0) e in
    child_limits→ b c a9.0 (none_applies 9 (room (length b) c) 0 a9.1).0
