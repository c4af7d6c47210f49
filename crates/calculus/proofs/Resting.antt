-- A walk over facts with their sets, known by its branch alone: every child adds a fact, so what a pending split rests on still stands at its mark.
use Prim.Native.Nat.{ℕ, zero, suc, ◌≤◌, ◌<◌}
use native.Mathlib.Omega.{arith}
use mathlib.Core.Path.{◌≡◌, refl, sym, ◌∙◌, ap, ap₂}
use mathlib.Core.Option
use mathlib.Core.Option.{some}
use mathlib.Core.List.{List, [], ◌∷◌, ◌++◌, map, map-append}
use lib.ListN.{length, get_or, take, length-append, length-map, get_or-append}
use lib.Seq.{get_or-take, take-append_seam, take-append-le, take-take, length-take-le, take-length}
use Rattle.lists.specs.Lists.{All}
use Rattle.lists.proofs.Lists.{map_take}
use Rattle.calculus.specs.Facts.{Question, Fact, Branch}
use Rattle.calculus.specs.Steps.{Step}
use Rattle.calculus.specs.Rules.{children}
use Rattle.calculus.specs.Walk.{Waiting, Walk, working, closed, wait, enter}
use Rattle.calculus.specs.Cores.{Set, union, Rested, facts, sets, resting, set_at, rests_on, of_closing, enter_resting, core_from}
use Rattle.calculus.proofs.Walks.{Pending}
use Rattle.calculus.proofs.Shapes.{OneToThree}
use Rattle.calculus.proofs.Cores.{facts_append, facts_resting}

-- ---- branches that have grown from the marks of their pending splits

-- what a child adds
abbrev pub Adds : List Fact → Type 0
Adds c = OneToThree (length c)

-- by a fact at least from each mark, since every child adds one
unfoldable pub Grown : Branch → Pending → Type 0
Grown b [] = Unit {0}
Grown b (p ∷ ps) =
    (length p.mark < length b) × (take (length p.mark) b ≡ p.mark) × Adds p.child × All Adds p.rest × Grown p.mark ps

abbrev pub GrownIn : Walk Branch (List Fact) → Type 0
GrownIn (working b ps) = Grown b ps
GrownIn closed = Unit {0}

grown_more : (b c : Branch) (ps : Pending) → Grown b ps → Grown (b ++ c) ps
unfolding Grown
grown_more b c [] h = tt
grown_more b c (p ∷ ps) (l, e, k, ks, g) = (omega (arith, length-append b c), take-append-le (length p.mark) b c (omega arith) ∙ e, k, ks, g)

wait_grown : (b : Branch) (c : List Fact) (cs : List (List Fact)) (ps : Pending) → Adds c → All Adds cs → Grown b ps
    → Grown (b ++ c) (wait b cs ps)
unfolding Grown
wait_grown b c [] ps h hs g = grown_more b c ps g
wait_grown b c (d ∷ ds) ps h (k, ks) g = (omega (arith, length-append b c), take-append_seam b c, k, ks, g)

pub enter_grown : (b : Branch) (cs : List (List Fact)) (ps : Pending) → All Adds cs → Grown b ps → GrownIn (enter ◌++◌ b cs ps)
unfolding Grown
enter_grown b [] [] h g = tt
enter_grown b [] (p ∷ ps) h (l, e, k, ks, g) = wait_grown p.mark p.child p.rest ps k ks g
enter_grown b (c ∷ cs) ps (h, hs) g = wait_grown b c cs ps h hs g

-- ---- the walk with sets

-- a split that is pending at mark m, on a branch that has grown from there
abbrev split_on : Rested → ℕ → List Fact → List (List Fact) → Waiting Rested Rested
split_on r m c cs = record { mark = take m r; child = resting (set_at r m) c; rest = map (resting (set_at r m)) cs }

abbrev rested_split : Rested → Waiting Branch (List Fact) → Waiting Rested Rested
rested_split r p = split_on r (length p.mark) p.child p.rest

abbrev rested_pending : Rested → Pending → List (Waiting Rested Rested)
rested_pending r ps = map (rested_split r) ps

abbrev pub rested_walk : Rested → Walk Branch (List Fact) → Walk Rested Rested
rested_walk r (working b ps) = working r (rested_pending r ps)
rested_walk r closed = closed

-- the branch with sets after a step that rests on s
abbrev pub rested_next : Rested → Set → List (List Fact) → Pending → Rested
rested_next r s (c ∷ cs) ps = r ++ resting s c
rested_next r s [] (p ∷ ps) = take (length p.mark) r ++ resting (set_at r (length p.mark)) p.child
rested_next r s [] [] = r

-- ---- sets by their places

pub set_taken : (r : Rested) (m k : ℕ) → k < m → set_at (take m r) k ≡ set_at r k
set_taken r m k h = ap (λ l. get_or l k []) (map_take (λ (f : Fact × Set). f.1) m r) ∙ get_or-take m (sets r) k [] h

pub set_before : (r q : Rested) (k : ℕ) → k < length r → set_at (r ++ q) k ≡ set_at r k
set_before r q k h =
    ap (λ l. get_or l k []) (map-append (λ (f : Fact × Set). f.1) r q)
    ∙ get_or-append (sets r) (sets q) [] k (omega (arith, length-map r (λ (f : Fact × Set). f.1)))

set_resting : (s : Set) (c : List Fact) (k : ℕ) → k < length c → set_at (resting s c) k ≡ s
set_resting s [] k h = absurd (omega arith)
set_resting s (f ∷ c) zero h = refl
set_resting s (f ∷ c) (suc k) h = set_resting s c k (omega arith)

pub set_behind : (r : Rested) (s : Set) (c : List Fact) (k : ℕ) → length r ≤ k → k < length (r ++ resting s c) → set_at (r ++ resting s c) k ≡ s
set_behind [] s c k l h = set_resting s c k (omega (arith, length-map {B = Fact × Set} c (λ f. (f, s))))
set_behind (f ∷ r) s c zero l h = absurd (omega arith)
set_behind (f ∷ r) s c (suc k) l h = set_behind r s c k (omega arith) (omega arith)

-- ---- a step

-- branches that agree up to b have the same pending splits
pending_same : (r q : Rested) (b : Branch) (ps : Pending) → take (length b) r ≡ take (length b) q → Grown b ps → rested_pending r ps ≡ rested_pending q ps
unfolding Grown
pending_same r q b [] e g = refl
pending_same r q b (p ∷ ps) e (l, t, k, ks, g) =
    let m : ℕ = length p.mark in
    let marks : take m r ≡ take m q =
    sym (take-take m (length b) r (omega arith)) ∙ ap (take m) e ∙ take-take m (length b) q (omega arith) in
    let sets : set_at r m ≡ set_at q m = sym (set_taken r (length b) m l) ∙ ap (λ x. set_at x m) e ∙ set_taken q (length b) m l in
    ap₂ (λ x xs. x ∷ xs) (ap₂ (same_split p) marks sets) (pending_same r q p.mark ps marks g)
  where
    same_split : Waiting Branch (List Fact) → Rested → Set → Waiting Rested Rested
    same_split p x s = record { mark = x; child = resting s p.child; rest = map (resting s) p.rest }

-- what waits after a child that was begun
wait_rested : (q : Rested) (s : Set) (c : List Fact) (b : Branch) (cs : List (List Fact)) (ps : Pending) (xs : List (Waiting Rested Rested))
    → length b ≡ length q
    → Adds c
    → xs ≡ rested_pending (q ++ resting s c) ps
    → wait q (map (resting s) cs) xs ≡ rested_pending (q ++ resting s c) (wait b cs ps)
wait_rested q s c b [] ps xs e h g = g
wait_rested q s c b (d ∷ ds) ps xs e h g =
    let r : Rested = q ++ resting s c in
    let marks : q ≡ take (length b) r = sym (take-append_seam q (resting s c)) ∙ ap (λ m. take m r) (sym e) in
    let sets : s ≡ set_at r (length b) =
    sym (set_behind q s c (length b) (omega arith) (omega (arith, length-append q (resting s c), length-map {B = Fact × Set} c (λ f. (f, s))))) in
    ap₂ (λ y ys. y ∷ ys) (ap₂ by_mark marks sets) g
  where
    by_mark : Rested → Set → Waiting Rested Rested
    by_mark x t = record { mark = x; child = resting t d; rest = map (resting t) ds }

pub enter_rested : (r : Rested) (s : Set) (b : Branch) (cs : List (List Fact)) (ps : Pending)
    → facts r ≡ b
    → All Adds cs
    → Grown b ps
    → enter ◌++◌ r (map (resting s) cs) (rested_pending r ps) ≡ rested_walk (rested_next r s cs ps) (enter ◌++◌ b cs ps)
unfolding Grown
enter_rested r s b [] [] e h g = refl
enter_rested r s b [] (p ∷ ps) e h (l, t, k, ks, g) =
    let m : ℕ = length p.mark in
    let q : Rested = take m r in
    let long : length q ≡ m = length-take-le m r (omega (arith, length-map r (λ (f : Fact × Set). f.0), ap length e)) in
    let same : rested_pending r ps ≡ rested_pending (q ++ resting (set_at r m) p.child) ps =
    pending_same r (q ++ resting (set_at r m) p.child) p.mark ps
    (sym (take-append_seam q (resting (set_at r m) p.child)) ∙ ap (λ (n : ℕ). take n (q ++ resting (set_at r m) p.child)) long) g in
    ap (working (q ++ resting (set_at r m) p.child)) (wait_rested q (set_at r m) p.child p.mark p.rest ps (rested_pending r ps) (sym long) k same)
enter_rested r s b (c ∷ cs) ps e (h, hs) g =
    let long : length b ≡ length r = sym (ap length e) ∙ length-map r (λ (f : Fact × Set). f.0) in
    ap (working (r ++ resting s c)) (wait_rested r s c b cs ps (rested_pending r ps) long h
    (pending_same r (r ++ resting s c) b ps
    (ap (λ (n : ℕ). take n r) long ∙ take-length r ∙ sym (take-append_seam r (resting s c)) ∙ ap (λ (n : ℕ). take n (r ++ resting s c)) (sym long)) g))

-- the facts of the branch after it
abbrev pub standing : Walk Branch (List Fact) → Branch
standing (working b ps) = b
standing closed = []

pub facts_taken : (m : ℕ) (r : Rested) → facts (take m r) ≡ take m (facts r)
facts_taken m r = map_take (λ (f : Fact × Set). f.0) m r

pub facts_next : (r : Rested) (s : Set) (b : Branch) (p : Waiting Branch (List Fact)) (ps : Pending) → facts r ≡ b → Grown b (p ∷ ps)
    → facts (rested_next r s [] (p ∷ ps)) ≡ p.mark ++ p.child
unfolding Grown
facts_next r s b p ps e (l, t, k, ks, g) =
    facts_append (take (length p.mark) r) (resting (set_at r (length p.mark)) p.child)
    ∙ ap₂ ◌++◌ (facts_taken (length p.mark) r ∙ ap (take (length p.mark)) e ∙ t) (facts_resting (set_at r (length p.mark)) p.child)

-- what a step that fits gives to the core, and what is left to it
pub core_stepped : (u : Question) (r : Rested) (b : Branch) (ps : Pending) (st : Step) (sts : List Step) (cs : List (List Fact))
    → facts r ≡ b
    → children u b st ≡ some cs
    → All Adds cs
    → Grown b ps
    → core_from u (rested_walk r (working b ps)) (st ∷ sts)
    ≡ union (of_closing cs (rests_on u r st)) (core_from u (rested_walk (rested_next r (rests_on u r st) cs ps) (enter ◌++◌ b cs ps)) sts)
unfolding core_from
core_stepped u r b ps st sts cs e f h g =
    let s : Set = rests_on u r st in
    ap (λ o. union (of_closing (Option.get_or o []) s) (core_from u (enter_resting u r st (Option.get_or o []) (rested_pending r ps)) sts))
    (ap (λ l. children u l st) e ∙ f)
    ∙ ap (λ k. union (of_closing cs s) (core_from u k sts)) (enter_rested r s b cs ps e h g)

pub core_closed : (u : Question) (sts : List Step) → core_from u closed sts ≡ []
unfolding core_from
core_closed u [] = refl
core_closed u (st ∷ sts) = refl
