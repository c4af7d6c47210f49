-- The sets of a branch's facts in the array: of its first facts, of those that come after them, and of the question's constraints.
use Prim.Native.Nat.{ℕ, zero, suc, ◌+◌, ◌≤◌, ◌<◌}
use native.Mathlib.Nat.{add-zero, zero-add}
use native.Mathlib.Omega.{arith}
use mathlib.Core.Path.{◌≡◌, refl, sym, ◌∙◌, ap}
use mathlib.Core.Bool.{Bool, true, false}
use mathlib.Core.List.{List, [], ◌∷◌, ◌++◌}
use lib.ListN.{length, take, length-append, length-map}
use lib.Seq.{length-take-le, take-take}
use lib.Dec.{leb}
use lib.IntN.{ℤ}
use borrow.Author.Tests.{leb-true, leb-false}
use Rattle.calculus.specs.Facts.{Fact, Branch}
use Rattle.calculus.specs.Cores.{Set, only, Rested, rooted_from, resting, set_at}
use Rattle.calculus.proofs.Cores.{facts_rooted}
use Rattle.calculus.proofs.Resting.{facts_taken, set_taken, set_before, set_behind}
use Rattle.rows.specs.Rows.{branch_of}
use Rattle.rows.proofs.Branches.{length_branch, branch_take}
use Rattle.cores.specs.declared.Words.{Words}
use Rattle.cores.specs.declared.Unions.{Unions}
use Rattle.cores.specs.Words.{words_of, unions_of}
use Rattle.cores.specs.Sets.{words_at, Carries, Stands, Filled}

-- ---- the first facts of a branch

pub stands_first : {w : List ℤ} {v : List Words} {count : ℕ} {r : Rested} (n : ℕ) → n ≤ count → Stands w v count r → Stands w v n (take n r)
stands_first {w} {v} {count} {r} n l h = record {
  rows = facts_taken n r ∙ ap (take n) h.rows ∙ branch_take w count n l;
  carried = record {
    all = length-take-le n r (omega (arith, h.carried.all));
    words = λ k m. h.carried.words k (omega arith) ∙ ap words_of (sym (set_taken r n k m));
  };
}

-- unions that are brought up from the first m facts to the first n
pub unions_grown : {w : List ℤ} {v : List Words} {count : ℕ} (m n : ℕ) (u x : Unions)
    → m ≤ n
    → n ≤ count
    → ((r : Rested) → Stands w v n r → u ≡ unions_of (take m r) → x ≡ unions_of r)
    → (r : Rested)
    → Stands w v count r
    → u ≡ unions_of (take m r)
    → x ≡ unions_of (take n r)
unions_grown m n u x a b up r h e = up (take n r) (stands_first n b h) (e ∙ ap unions_of (sym (take-take m n r a)))

-- ---- facts that come

-- the sets of facts that stay, and of those that come after them
pub carried_next : (v v' : List Words) (count from to : ℕ) (x : Words) (r : Rested) (s : Set) (c : List Fact)
    → Carries v count r
    → Filled v from to x v'
    → from ≤ count
    → x ≡ words_of s
    → to ≡ from + length c
    → Carries v' to (take from r ++ resting s c)
carried_next v v' count from to x r s c h f l e n =
    record { all = all_there; words = λ k g. by_place k g (leb (from) k) refl }
  where
    front : length (take from r) ≡ from
    front = length-take-le from r (omega (arith, h.all))

    all_there : length (take from r ++ resting s c) ≡ to
    all_there = omega (arith, length-append (take from r) (resting s c), front, length-map {B = Fact × Set} c (λ f. (f, s)), n)

    by_place : (k : ℕ) → k < to → (t : Bool) → leb from k ≡ t → words_at v' k ≡ words_of (set_at (take from r ++ resting s c) k)
    by_place k g true t = f.set_there k (leb-true from k t) g ∙ e ∙ ap words_of (sym (set_behind (take from r) s c k (omega (arith, front, leb-true from k t)) (omega (arith, all_there))))
    by_place k g false t =
        let less : k < from = leb-false from k t in
        f.below k less ∙ h.words k (omega arith)
        ∙ ap words_of (sym (set_before (take from r) (resting s c) k (omega (arith, front)) ∙ set_taken r from k less))

-- by other names
pub filled_as : {v v' : List Words} {from mark to count : ℕ} {x y : Words} → from ≡ mark → to ≡ count → x ≡ y → Filled v from to x v' → Filled v mark count y v'
filled_as p q e f = rw (← p, ← q, ← e) f

-- ---- the question's constraints, each of which rests on itself

set_rooted : (k : ℕ) (b : Branch) (j : ℕ) → j < length b → set_at (rooted_from k b) j ≡ only (k + j)
unfolding rooted_from
set_rooted k [] j h = absurd (omega arith)
set_rooted k (f ∷ b) zero h = ap only (sym (add-zero k))
set_rooted k (f ∷ b) (suc j) h =
    let e : suc k + j ≡ k + suc j = omega arith in
    set_rooted (suc k) b j (omega arith) ∙ ap only e

pub stands_rooted : (w : List ℤ) (v : List Words) (n : ℕ) → ((k : ℕ) → k < n → words_at v k ≡ words_of (only k)) → Stands w v n (rooted_from 0 (branch_of w n))
stands_rooted w v n h = record {
  rows = facts_rooted 0 (branch_of w n);
  carried = record {
    all =
        sym (length-map (rooted_from 0 (branch_of w n)) (λ (f : Fact × Set). f.0))
        ∙ ap length (facts_rooted 0 (branch_of w n))
        ∙ length_branch w n;
    words = λ k l. h k l ∙ ap words_of (sym (set_rooted 0 (branch_of w n) k (omega (arith, length_branch w n)) ∙ ap only (zero-add k)));
  };
}
