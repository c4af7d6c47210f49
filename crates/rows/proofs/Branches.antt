-- The branch as a function of the work area and the count.
use Prim.Native.Nat.{ℕ, zero, suc, ◌+◌, ◌-◌, ◌*◌, ◌≤◌, ◌<◌}
use native.Mathlib.Numerals.{add-one}
use native.Mathlib.Omega.{arith}
use native.Mathlib.Decide.{dec_lt}
use mathlib.Core.Path.{◌≡◌, refl, sym, ◌∙◌, ap, ap₂}
use mathlib.Core.Option.{none, some}
use mathlib.Core.List.{List, [], ◌∷◌, ◌++◌}
use lib.ListN.{length, get_or, take, drop, set, get_elem?, length-take, length-drop, length-append}
use lib.Seq.{take-append-le, take_all, take_at, drop_at, drop-drop, take-take, length-take-le, take-set-le, take-set-lt, drop-set-add, get_or-take, get_or-drop}
use lib.IntN.{ℤ, pos}
use Rattle.calculus.specs.Facts.{Fact}
use Rattle.lists.proofs.Filled.{drop_take}
use Rattle.lists.proofs.Lists.{element_none, length_up_to, element_up_to}
use Rattle.rows.specs.Rows.{row_length, fact_of, row_at, branch_of}

-- ---- one row

pub length_row : (w : List ℤ) (k : ℕ) → row_length * k + row_length ≤ length w → length (row_at w k) ≡ row_length
length_row w k h = simp (length-take, length-drop) (omega arith)

pub row_number : (w : List ℤ) (k j : ℕ) → j < row_length → get_or (row_at w k) j (pos 0) ≡ get_or w (row_length * k + j) (pos 0)
row_number w k j h = get_or-take row_length (drop (row_length * k) w) j (pos 0) h ∙ get_or-drop (row_length * k) w j (pos 0)

-- where the numbers before row k are the same, so is a row before it
pub row_before : (w v : List ℤ) (k j : ℕ) → j < k → take (row_length * k) w ≡ take (row_length * k) v → row_at w j ≡ row_at v j
row_before w v k j h e = front w ∙ ap (λ (l : List ℤ). drop (row_length * j) (take (row_length * j + row_length) l)) e ∙ sym (front v)
  where
    front : (l : List ℤ) → row_at l j ≡ drop (row_length * j) (take (row_length * j + row_length) (take (row_length * k) l))
    front l =
        sym (drop_take (row_length * j) row_length l)
        ∙ ap (λ (m : List ℤ). drop (row_length * j) m) (sym (take-take (row_length * j + row_length) (row_length * k) l (omega arith)))

-- ---- the first k rows, as facts

pub length_branch : (w : List ℤ) (k : ℕ) → length (branch_of w k) ≡ k
unfolding branch_of
length_branch w k = length_up_to (λ j. fact_of (row_at w j)) k

pub branch_more : (w : List ℤ) (k : ℕ) → branch_of w (k + 1) ≡ branch_of w k ++ (fact_of (row_at w k) ∷ [])
unfolding branch_of
branch_more w k = rw add-one

-- the facts are those of the numbers before row k
pub branch_same : (w v : List ℤ) (k : ℕ) → take (row_length * k) w ≡ take (row_length * k) v → branch_of w k ≡ branch_of v k
unfolding branch_of
branch_same w v zero e = refl
branch_same w v (suc k) e =
    let before : take (row_length * k) w ≡ take (row_length * k) v =
    sym (take-take (row_length * k) (row_length * suc k) w (omega arith))
    ∙ ap (λ (l : List ℤ). take (row_length * k) l) e
    ∙ take-take (row_length * k) (row_length * suc k) v (omega arith) in
    ap₂ (λ (b : List Fact) (r : List ℤ). b ++ (fact_of r ∷ [])) (branch_same w v k before) (row_before w v (suc k) k (omega arith) e)

-- fact number j
pub branch_at : (w : List ℤ) (k j : ℕ) → j < k → get_elem? (branch_of w k) j ≡ some (fact_of (row_at w j))
unfolding branch_of
branch_at w k j h = element_up_to (λ i. fact_of (row_at w i)) k j h

pub branch_beyond : (w : List ℤ) (k j : ℕ) → k ≤ j → get_elem? (branch_of w k) j ≡ none
branch_beyond w k j h = element_none (branch_of w k) j (rw (length_branch w k) h)

pub branch_take : (w : List ℤ) (k m : ℕ) → m ≤ k → take m (branch_of w k) ≡ branch_of w m
unfolding branch_of
branch_take w zero m h = let e : m ≡ 0 = omega arith in rw e
branch_take w (suc k) m h = go (λ l. branch_take w k m l) (dec_lt m (suc k))
  where
    go : (m ≤ k → take m (branch_of w k) ≡ branch_of w m) → Dec (m < suc k) → take m (branch_of w (suc k)) ≡ branch_of w m
    go ih (yes l) = take-append-le m (branch_of w k) (fact_of (row_at w k) ∷ []) (rw (length_branch w k) (omega arith)) ∙ ih (omega arith)
    go ih (no n) =
        let e : m ≡ suc k = omega arith in
        take_all m (branch_of w (suc k)) (rw (length_branch w (suc k)) (omega arith)) ∙ ap (λ (i : ℕ). branch_of w i) (sym e)

-- where facts were put after the first k, these are as they were
pub branch_grown : (w v : List ℤ) (k m : ℕ) (c : List Fact) → branch_of v m ≡ branch_of w k ++ c → (k ≤ m) × (branch_of v k ≡ branch_of w k)
branch_grown w v k m c e =
    let long : k ≤ m = omega (arith, sym (length_branch v m) ∙ ap length e ∙ length-append (branch_of w k) c, length_branch w k) in
    (long, sym (branch_take v m k long) ∙ ap (take k) e ∙ take_at (branch_of w k) c k (length_branch w k))

-- ---- a row is put in its own stretch

-- row k states f, and the rows before it are as they were
pub branch_stated : (w v : List ℤ) (k : ℕ) (f : Fact) → take (row_length * k) v ≡ take (row_length * k) w → fact_of (row_at v k) ≡ f
    → branch_of v (k + 1) ≡ branch_of w k ++ (f ∷ [])
branch_stated w v k f same e = branch_more v k ∙ ap₂ (λ (b : List Fact) (g : Fact). b ++ (g ∷ [])) (branch_same v w k same) e

pub branch_put : (w row : List ℤ) (k : ℕ) → row_length * k + row_length ≤ length w → length row ≡ row_length
    → branch_of (take (row_length * k) w ++ (row ++ drop (row_length * k + row_length) w)) (k + 1) ≡ branch_of w k ++ (fact_of row ∷ [])
branch_put w row k h n =
    let front : length (take (row_length * k) w) ≡ row_length * k = length-take-le (row_length * k) w (omega arith) in
    let rest = row ++ drop (row_length * k + row_length) w in
    let its : row_at (take (row_length * k) w ++ rest) k ≡ row =
    ap (λ (l : List ℤ). take row_length l) (drop_at (take (row_length * k) w) rest (row_length * k) front)
    ∙ take_at row (drop (row_length * k + row_length) w) row_length n in
    branch_stated w (take (row_length * k) w ++ rest) k (fact_of row) (take_at (take (row_length * k) w) rest (row_length * k) front) (ap fact_of its)

-- a row's own stretch is lent and comes back as a row that states f: the facts before it and f
pub branch_filled : (w row : List ℤ) (k : ℕ) (f : Fact) → row_length * k + row_length ≤ length w → length row ≡ row_length → fact_of row ≡ f
    → branch_of (take (row_length * k) w ++ (row ++ drop (row_length * k + row_length - row_length * k) (drop (row_length * k) w))) (k + 1) ≡ branch_of w k ++ (f ∷ [])
branch_filled w row k f h n e =
    let m : row_length * k + row_length - row_length * k ≡ row_length = omega arith in
    rw (m, drop-drop) (branch_put w row k h n) ∙ ap (λ (g : Fact). branch_of w k ++ (g ∷ [])) e

-- ---- a row is filled number by number

-- a number is stored in row k
pub row_set : (w row : List ℤ) (k j : ℕ) (x : ℤ) → j < row_length → row_at w k ≡ row → row_at (set w (row_length * k + j) x) k ≡ set row j x
row_set w row k j x h e =
    ap (λ (l : List ℤ). take row_length l) (drop-set-add (row_length * k) w j x)
    ∙ take-set-lt row_length (drop (row_length * k) w) j x h
    ∙ ap (λ (l : List ℤ). set l j x) e

-- the rows before it are as they were
pub before_set : (w v : List ℤ) (k j : ℕ) (x : ℤ) → take (row_length * k) v ≡ take (row_length * k) w
    → take (row_length * k) (set v (row_length * k + j) x) ≡ take (row_length * k) w
before_set w v k j x e = take-set-le (row_length * k) v (row_length * k + j) x (omega arith) ∙ e

-- a number of a row before it
pub before_at : (w v : List ℤ) (k i j : ℕ) → i < k → j < row_length → take (row_length * k) v ≡ take (row_length * k) w
    → get_or v (row_length * i + j) (pos 0) ≡ get_or (row_at w i) j (pos 0)
before_at w v k i j h l e = sym (row_number v i j l) ∙ ap (λ (r : List ℤ). get_or r j (pos 0)) (row_before v w k i h e)
