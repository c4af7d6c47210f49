-- The children of each rule, fact by fact, as rows state them.
use Prim.Native.Nat.{ℕ, zero, suc, ◌+◌, ◌-◌, ◌≤◌, ◌<◌}
use native.Mathlib.Omega.{arith}
use native.Mathlib.Decide.{ℕ_discrete, dec_lt}
use mathlib.Core.Path.{◌≡◌, refl, sym, ◌∙◌, ap}
use mathlib.Core.Bool.{Bool, true, false}
use mathlib.Core.Option.{some}
use mathlib.Core.List.{List, [], ◌∷◌, ◌++◌, append_assoc, map}
use borrow.Author.Tests.{le-leb, lt-leb, eq-eqb, ne_eqb}
use lib.ListN.{length, drop, get_elem?}
use lib.Dec.{eqb, leb}
use lib.IntN.{ℤ, pos, negsuc, neg_ℤ}
use Rattle.calculus.specs.Limits.{number_limit}
use Rattle.calculus.specs.Alphabet.{character_count}
use Rattle.calculus.specs.Facts.{Fact, same, not_same, is_literal, arithmetic, ge, eq, ne}
use Rattle.calculus.specs.Children.{child_at, apart_children, codeless_child, code_child, c_valid_children, bound_child}
use Rattle.calculus.specs.Rules.{then, apart_of, least_power, last_child}
use Rattle.calculus.proofs.Alphabet.{count_is, ranges_are}
use Rattle.format.specs.Checking.{fits, or_none, fact_within}
use Rattle.format.specs.Fields.{all_within}
use Rattle.format.proofs.Faults.{not_both}
use Rattle.rows.specs.Rows.{fact_of, row_at, branch_of}
use Rattle.rows.specs.Work.{single, tag_of}
use Rattle.rows.proofs.Forms.{column_single, minus_number, number_minus, above_column}
use Rattle.rows.proofs.Branches.{branch_at, branch_beyond}
use Rattle.rows.proofs.Tags.{row_relation}
use Rattle.question.specs.declared.Progress.{Progress}
use Rattle.question.specs.Columns.{column_at}
use Rattle.question.specs.Posed.{numbered}
use Rattle.splits.specs.Children.{codeless, coded}

-- ---- a child by its number

pub child_one : (c : List Fact) (cs : List (List Fact)) (k : ℕ) → k ≡ 1 → c ≡ or_none (child_at (c ∷ cs) k)
child_one c cs k e = ap (λ n. or_none (child_at (c ∷ cs) n)) (sym e)

pub child_two : (c d : List Fact) (cs : List (List Fact)) (k : ℕ) → k ≡ 2 → d ≡ or_none (child_at (c ∷ d ∷ cs) k)
child_two c d cs k e = ap (λ n. or_none (child_at (c ∷ d ∷ cs) n)) (sym e)

pub child_three : (c d e : List Fact) (cs : List (List Fact)) (k : ℕ) → k ≡ 3 → e ≡ or_none (child_at (c ∷ d ∷ e ∷ cs) k)
child_three c d e cs k q = ap (λ n. or_none (child_at (c ∷ d ∷ e ∷ cs) n)) (sym q)

-- ---- Apart

pub parted_beyond : (w : List ℤ) (count k : ℕ) → count ≤ k → fits (then (get_elem? (branch_of w count) k) apart_of) ≡ false
parted_beyond w count k h = rw (branch_beyond w count k h)

apart_of_tag : (f : Fact) → (tag_of f ≡ 2 → ⊥) → fits (apart_of f) ≡ false
unfolding tag_of
apart_of_tag (same x y) h = refl
apart_of_tag (not_same x y) h = refl
apart_of_tag (is_literal x l) h = refl
apart_of_tag (arithmetic ge e) h = refl
apart_of_tag (arithmetic eq e) h = refl
apart_of_tag (arithmetic ne e) h = absurd (h refl)

pub parted_no : (w : List ℤ) (count k : ℕ) → k < count → (tag_of (fact_of (row_at w k)) ≡ 2 → ⊥) → fits (then (get_elem? (branch_of w count) k) apart_of) ≡ false
parted_no w count k h n = ap (λ o. fits (then o apart_of)) (branch_at w count k h) ∙ apart_of_tag (fact_of (row_at w k)) n

pub parted_is : (w : List ℤ) (count k : ℕ) → k < count → tag_of (fact_of (row_at w k)) ≡ 2
    → then (get_elem? (branch_of w count) k) apart_of ≡ some (apart_children (drop 1 (row_at w k)))
parted_is w count k h e =
    ap (λ o. then o apart_of) (branch_at w count k h)
    ∙ ap apart_of (row_relation (row_at w k) 2 (sym e) (omega arith))

pub parted_test : (w : List ℤ) (count k : ℕ) → k < count → eqb (tag_of (fact_of (row_at w k))) 2 ≡ fits (then (get_elem? (branch_of w count) k) apart_of)
parted_test w count k h = go (ℕ_discrete (tag_of (fact_of (row_at w k))) 2)
  where
    go : Dec (tag_of (fact_of (row_at w k)) ≡ 2) → eqb (tag_of (fact_of (row_at w k))) 2 ≡ fits (then (get_elem? (branch_of w count) k) apart_of)
    go (yes e) = eq-eqb (tag_of (fact_of (row_at w k))) 2 e ∙ sym (ap fits (parted_is w count k h e))
    go (no n) = ne_eqb (tag_of (fact_of (row_at w k))) 2 n ∙ sym (parted_no w count k h n)

pub parted_fits : (w : List ℤ) (count k : ℕ) → fits (then (get_elem? (branch_of w count) k) apart_of) ≡ true → (k < count) × (tag_of (fact_of (row_at w k)) ≡ 2)
parted_fits w count k e = go (dec_lt k count) (ℕ_discrete (tag_of (fact_of (row_at w k))) 2)
  where
    go : Dec (k < count) → Dec (tag_of (fact_of (row_at w k)) ≡ 2) → (k < count) × (tag_of (fact_of (row_at w k)) ≡ 2)
    go (yes h) (yes q) = (h, q)
    go (yes h) (no n) = absurd (not_both (fits (then (get_elem? (branch_of w count) k) apart_of)) e (parted_no w count k h n))
    go (no n) d = absurd (not_both (fits (then (get_elem? (branch_of w count) k) apart_of)) e (parted_beyond w count k (omega arith)))

pub ne_within : (row : List ℤ) → tag_of (fact_of row) ≡ 2 → fact_within (fact_of row) ≡ true → all_within number_limit (drop 1 row) ≡ true
ne_within row e h = sym (ap fact_within (row_relation row 2 (sym e) (omega arith))) ∙ h

-- ---- C-Valid

-- one range of codes
one_range : (s : Progress) (x : ℕ) → c_valid_children (numbered s) x ≡ codeless_child (numbered s) x ∷ code_child (numbered s) x (0, s.n - 1) ∷ []
one_range s x = ap (λ (rs : List (ℕ × ℕ)). codeless_child (numbered s) x ∷ map (code_child (numbered s) x) rs) (ranges_are s.n)

module _ (s : Progress) (x len code : ℕ) (el : len ≡ column_at s.p s.q 0 x) (ec : code ≡ column_at s.p s.q 1 x) (hl : len < 48) (hc : code < 48) where
  pub c_valid_children_law : c_valid_children (numbered s) x ≡ codeless len code ∷ coded len code 0 (s.n - 1) ∷ []
  unfolding column_at
  c_valid_children_law =
      one_range s x
      ∙ rw (sym el, sym ec, above_column len hl, minus_number code hc (negsuc 0), number_minus code hc (pos (s.n - 1)), column_single code hc)

  pub c_valid_one : (k : ℕ) → k ≡ 1 → codeless len code ≡ or_none (child_at (c_valid_children (numbered s) x) k)
  c_valid_one k e = child_one (codeless len code) (coded len code 0 (s.n - 1) ∷ []) k e ∙ sym (ap (λ (cs : List (List Fact)). or_none (child_at cs k)) c_valid_children_law)

  pub c_valid_two : (k : ℕ) → k ≡ 2 → coded len code 0 (s.n - 1) ≡ or_none (child_at (c_valid_children (numbered s) x) k)
  c_valid_two k e = child_two (codeless len code) (coded len code 0 (s.n - 1)) [] k e ∙ sym (ap (λ (cs : List (List Fact)). or_none (child_at cs k)) c_valid_children_law)

pub c_valid_count : (s : Progress) (x : ℕ) → length (c_valid_children (numbered s) x) ≡ 2
c_valid_count s x = ap length (one_range s x)

-- its first child adds two facts, its second three
pub c_valid_size : (s : Progress) (x k : ℕ) → 1 ≤ k → k ≤ 2 → length (or_none (child_at (c_valid_children (numbered s) x) k)) ≡ k + 1
c_valid_size s x zero h g = absurd (omega arith)
c_valid_size s x (suc zero) h g = ap (λ (cs : List (List Fact)). length (or_none (child_at cs 1))) (one_range s x)
c_valid_size s x (suc (suc zero)) h g = ap (λ (cs : List (List Fact)). length (or_none (child_at cs 2))) (one_range s x)
c_valid_size s x (suc (suc (suc k))) h g = absurd (omega arith)

-- ---- facts put one after the other

pub put_two : (v w x : List ℤ) (k : ℕ) (f g : Fact)
    → branch_of w (k + 1) ≡ branch_of v k ++ (f ∷ [])
    → branch_of x (k + 1 + 1) ≡ branch_of w (k + 1) ++ (g ∷ [])
    → branch_of x (k + 2) ≡ branch_of v k ++ (f ∷ g ∷ [])
put_two v w x k f g p q =
    let e : k + 2 ≡ k + 1 + 1 = omega arith in
    ap (branch_of x) e ∙ q ∙ ap (λ l. l ++ (g ∷ [])) p ∙ append_assoc (branch_of v k) (f ∷ []) (g ∷ [])

pub put_three : (v x y : List ℤ) (k : ℕ) (f g h : Fact)
    → branch_of x (k + 2) ≡ branch_of v k ++ (f ∷ g ∷ [])
    → branch_of y (k + 2 + 1) ≡ branch_of x (k + 2) ++ (h ∷ [])
    → branch_of y (k + 3) ≡ branch_of v k ++ (f ∷ g ∷ h ∷ [])
put_three v x y k f g h p q =
    let e : k + 3 ≡ k + 2 + 1 = omega arith in
    ap (branch_of y) e ∙ q ∙ ap (λ l. l ++ (h ∷ [])) p ∙ append_assoc (branch_of v k) (f ∷ g ∷ []) (h ∷ [])

-- ---- Card's last child

-- over so many characters
abbrev last_over : Progress → ℕ → ℕ → ℕ → List (List Fact)
last_over s x m n = elim (leb n 1) [ true ↦ [] | false ↦ bound_child (numbered s) x (least_power m n m 0) ]

last_by : (s : Progress) (x m : ℕ) → last_child (numbered s) x m ≡ last_over s x m s.n
last_by s x m = ap (last_over s x m) (count_is s.n)

pub last_is : (s : Progress) (x m : ℕ) → 2 ≤ s.n → s.q + x < 48
    → last_child (numbered s) x m ≡ (arithmetic ge (single (neg_ℤ (pos (least_power m s.n m 0))) (s.q + x) (pos 1)) ∷ []) ∷ []
last_is s x m h g =
    last_by s x m
    ∙ ap (λ (t : Bool). elim t [ true ↦ [] | false ↦ bound_child (numbered s) x (least_power m s.n m 0) ]) (lt-leb s.n 1 (omega arith))
    ∙ ap (λ (e : List ℤ). (arithmetic ge e ∷ []) ∷ []) (minus_number (s.q + x) g (pos (least_power m s.n m 0)))

pub last_none : (s : Progress) (x m : ℕ) → s.n ≤ 1 → last_child (numbered s) x m ≡ []
last_none s x m h = last_by s x m ∙ ap (λ (t : Bool). elim t [ true ↦ [] | false ↦ bound_child (numbered s) x (least_power m s.n m 0) ]) (le-leb s.n 1 h)

pub last_short : (s : Progress) (x m : ℕ) → length (last_child (numbered s) x m) ≤ 1
last_short s x m = go (leb (character_count s.n) 1)
  where
    go : (t : Bool)
        → length {A = List Fact}
        (elim t as (λ _. List (List Fact)) [ true ↦ [] | false ↦ bound_child (numbered s) x (least_power m (character_count s.n) m 0) ]) ≤ 1
    go true = omega arith
    go false = omega arith

pub last_some : (s : Progress) (x m j : ℕ) → j < length (last_child (numbered s) x m) → 2 ≤ s.n
last_some s x m j h = go (dec_lt 1 s.n)
  where
    go : Dec (1 < s.n) → 2 ≤ s.n
    go (no l) = absurd (let z : length (last_child (numbered s) x m) ≡ 0 = ap length (last_none s x m (omega arith)) in omega arith)
    go (yes n) = omega arith
