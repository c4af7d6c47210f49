-- Laws of labels, rows and tests below a bound, in the form that a loop asks.
use mathlib.Core.Path.{◌≡◌, refl, sym, ◌∙◌, ap, ap₂}
use mathlib.Core.Bool.{Bool, true, false, cond, ◌||◌, or-false, or_assoc, or_comm}
use mathlib.Core.Option.{Option, some}
use mathlib.Core.List.{List, [], ◌∷◌, ◌++◌}
use Prim.Native.Nat.{ℕ, zero, suc, ◌+◌, ◌*◌, ◌≤◌, ◌<◌}
use native.Mathlib.Numerals.{add-one}
use native.Mathlib.Omega.{arith}
use borrow.Author.Tests.{eqb-true, leb-true}
use lib.Dec.{eqb, leb}
use lib.ListN.{length, get_or, take}
use lib.IntN.{ℤ, pos}
use Rattle.std.specs.Prelude.{Some}
use Rattle.std.specs.Option.{unwrap_or}
use Rattle.std.specs.List.{range_with_len, list_any, find}
use Rattle.lists.specs.Lists.{any_below}
use Rattle.lists.proofs.Options.{some_injective, none_some}
use Rattle.calculus.specs.Facts.{Fact, Branch, same, not_same, is_literal, arithmetic}
use Rattle.calculus.specs.Chains.{var_node, lit_node}
use Rattle.calculus.specs.Classes.{up_from, relabel, merge_nodes, merge_fact, labels_from, labels, same_class, lowest_literal, sides_meet}
use Rattle.calculus.specs.SettledTest.{lowest_from}
use Rattle.rows.specs.Rows.{row_length, index, fact_of, row_at, branch_of}
use Rattle.rows.specs.Work.{tag_of}
use Rattle.rows.proofs.Branches.{branch_take, branch_grown, length_row}
use Rattle.rows.proofs.Tags.{row_string}
use Rattle.classes.specs.declared.Known.{Known}
use Rattle.classes.specs.Classes.{Knows, set_back, literal_of}
use Rattle.lists.proofs.Library.{any_below_is}

-- ---- labels

-- a label that becomes itself
pub relabel_same : (l : ℕ) (ls : List ℕ) → relabel l l ls ≡ ls
relabel_same l [] = refl
relabel_same l (c ∷ ls) = ap₂ ◌∷◌ (go (eqb c l) refl) (relabel_same l ls)
  where
    go : (t : Bool) → eqb c l ≡ t → cond t l c ≡ c
    go true e = sym (eqb-true c l e)
    go false e = refl

from_snoc : (ls : List ℕ) (b : Branch) (f : Fact) → labels_from ls (b ++ f ∷ []) ≡ merge_fact (labels_from ls b) f
from_snoc ls [] f = refl
from_snoc ls (g ∷ b) f = from_snoc (merge_fact ls g) b f

pub labels_snoc : (b : Branch) (f : Fact) → labels (b ++ f ∷ []) ≡ merge_fact (labels b) f
labels_snoc b f = from_snoc (up_from 0 32) b f

-- ---- labels that are kept

-- beside facts that stay
pub knows_kept : {w v : List ℤ} {count : ℕ} {k : Known} → branch_of v count ≡ branch_of w count → Knows w count k → Knows v count k
knows_kept {w} {v} {count} {k} e h =
    let same : branch_of w k.upto ≡ branch_of v k.upto =
    sym (branch_take w count k.upto h.few) ∙ ap (take k.upto) (sym e) ∙ branch_take v count k.upto h.few in
    record { few = h.few; labelled = h.labelled ∙ ap labels same }

-- beside more facts
-- nothing is known
pub knows_nothing : (w : List ℤ) (count : ℕ) (k : Known) → k.upto ≡ 0 → k.labels ≡ labels [] → Knows w count k
unfolding branch_of
knows_nothing w count k z e = record { few = omega arith; labelled = e ∙ ap (λ (n : ℕ). labels (branch_of w n)) (sym z) }

-- what was set back is known there
pub knows_back : (w : List ℤ) (count mark : ℕ) (known first : Known) → Knows w count known → Knows w mark first → Knows w mark (set_back known first mark)
knows_back w count mark known first h f = go (leb known.upto mark) refl
  where
    go : (t : Bool) → leb known.upto mark ≡ t → Knows w mark (cond t known first)
    go true e = record { few = leb-true known.upto mark e; labelled = h.labelled }
    go false e = f

pub knows_more : {w : List ℤ} {count more : ℕ} {k : Known} → Knows w count k → count ≤ more → Knows w more k
knows_more h l = let few = h.few in record { few = omega arith; labelled = h.labelled }

-- on a branch that has grown
pub knows_grown : {w v : List ℤ} {count more : ℕ} {k : Known} (c : Branch) → branch_of v more ≡ branch_of w count ++ c → Knows w count k → Knows v more k
knows_grown {w} {v} {count} {more} c e h = let (long, kept) = branch_grown w v count more c e in knows_more (knows_kept kept h) long

-- ---- the lowest literal

pub lowest_found : (ls : List ℕ) (x k m : ℕ)
    → literal_of (find (λ l. same_class ls (var_node x) (lit_node l)) (range_with_len k m)) ≡ lowest_literal ls x k m
unfolding literal_of
lowest_found ls x k zero = refl
lowest_found ls x k (suc m) = go (same_class ls (var_node x) (lit_node k)) (lowest_found ls x (k + 1) m)
  where
    go : (t : Bool)
        → literal_of (find (λ l. same_class ls (var_node x) (lit_node l)) (range_with_len (k + 1) m)) ≡ lowest_literal ls x (k + 1) m
        → literal_of (cond t (Some k) (find (λ l. same_class ls (var_node x) (lit_node l)) (range_with_len (k + 1) m)))
        ≡ elim t as (λ _. Option ℕ) [ true ↦ some k | false ↦ lowest_literal ls x (suc k) m ]
    go true ih = refl
    go false ih = ih ∙ ap (λ (i : ℕ). lowest_literal ls x i m) (add-one k)

from_below : (ls : List ℕ) (x m k l : ℕ) → lowest_literal ls x k m ≡ some l → l < k + m
from_below ls x zero k l e = absurd (none_some e)
from_below ls x (suc m) k l e = go (same_class ls (var_node x) (lit_node k)) (from_below ls x m (suc k) l) e
  where
    go : (t : Bool)
        → (lowest_literal ls x (suc k) m ≡ some l → l < suc k + m)
        → elim t as (λ _. Option ℕ) [ true ↦ some k | false ↦ lowest_literal ls x (suc k) m ] ≡ some l
        → l < k + suc m
    go true ih e = let f : k ≡ l = some_injective e in omega arith
    go false ih e = omega (arith, ih e)

-- a literal that was found is one of the m
pub literal_below : (ls : List ℕ) (x m l : ℕ) → lowest_literal ls x 0 m ≡ some l → l < m
literal_below ls x m l e = omega (arith, from_below ls x m 0 l e)

-- ---- the lowest variable

pub first_found : (ls : List ℕ) (x y d : ℕ)
    → unwrap_or (find (λ z. same_class ls (var_node x) (var_node z)) (range_with_len y d)) x ≡ lowest_from d ls x y
first_found ls x y zero = refl
first_found ls x y (suc d) = go (same_class ls (var_node x) (var_node y)) (first_found ls x (y + 1) d)
  where
    go : (t : Bool)
        → unwrap_or (find (λ z. same_class ls (var_node x) (var_node z)) (range_with_len (y + 1) d)) x ≡ lowest_from d ls x (y + 1)
        → unwrap_or (cond t (Some y) (find (λ z. same_class ls (var_node x) (var_node z)) (range_with_len (y + 1) d))) x
        ≡ elim t as (λ _. ℕ) [ true ↦ y | false ↦ lowest_from d ls x (suc y) ]
    go true ih = refl
    go false ih = ih ∙ ap (lowest_from d ls x) (add-one y)

-- ---- ≉ facts

-- a row that was read has its numbers
pub row_sized : (row w : List ℤ) (k : ℕ) → row ≡ row_at w k → row_length * k + row_length ≤ length w → length row ≡ row_length
row_sized row w k e h = ap length e ∙ length_row w k h

sides_cons : (ls : List ℕ) (f : Fact) (b : Branch) → sides_meet ls (f ∷ b) ≡ (sides_meet ls (f ∷ []) || sides_meet ls b)
sides_cons ls (same x y) b = refl
sides_cons ls (not_same x y) b = ap (λ (t : Bool). t || sides_meet ls b) (sym (or-false (same_class ls (var_node x) (var_node y))))
sides_cons ls (is_literal x l) b = refl
sides_cons ls (arithmetic r e) b = refl

pub sides_snoc : (ls : List ℕ) (b : Branch) (f : Fact) → sides_meet ls (b ++ f ∷ []) ≡ (sides_meet ls b || sides_meet ls (f ∷ []))
sides_snoc ls [] f = refl
sides_snoc ls (g ∷ b) f =
    sides_cons ls g (b ++ f ∷ [])
    ∙ ap (λ (t : Bool). sides_meet ls (g ∷ []) || t) (sides_snoc ls b f)
    ∙ sym (or_assoc (sides_meet ls (g ∷ [])) (sides_meet ls b) (sides_meet ls (f ∷ [])))
    ∙ ap (λ (t : Bool). t || sides_meet ls (f ∷ [])) (sym (sides_cons ls g b))

-- among the first n rows
any_sides : (ls : List ℕ) (w : List ℤ) (n : ℕ) → any_below n (λ k. sides_meet ls (fact_of (row_at w k) ∷ [])) ≡ sides_meet ls (branch_of w n)
unfolding branch_of
any_sides ls w zero = refl
any_sides ls w (suc n) =
    ap (λ (t : Bool). sides_meet ls (fact_of (row_at w n) ∷ []) || t) (any_sides ls w n)
    ∙ or_comm (sides_meet ls (fact_of (row_at w n) ∷ [])) (sides_meet ls (branch_of w n))
    ∙ sym (sides_snoc ls (branch_of w n) (fact_of (row_at w n)))

pub sides_range : (ls : List ℕ) (w : List ℤ) (n : ℕ)
    → list_any (λ (k : ℕ). sides_meet ls (fact_of (row_at w k) ∷ [])) (range_with_len 0 n) ≡ sides_meet ls (branch_of w n)
sides_range ls w n = any_below_is (λ k. sides_meet ls (fact_of (row_at w k) ∷ [])) n ∙ any_sides ls w n

no_sides : (ls : List ℕ) (f : Fact) → (tag_of f ≡ 4 → ⊥) → sides_meet ls (f ∷ []) ≡ false
unfolding tag_of
no_sides ls (same x y) h = refl
no_sides ls (not_same x y) h = absurd (h refl)
no_sides ls (is_literal x l) h = refl
no_sides ls (arithmetic r e) h = refl

-- ---- what a row says, by its kind

merges_none : (ls : List ℕ) (f : Fact) → (tag_of f ≡ 3 → ⊥) → (tag_of f ≡ 5 → ⊥) → merge_fact ls f ≡ ls
unfolding tag_of
merges_none ls (same x y) h k = absurd (h refl)
merges_none ls (not_same x y) h k = refl
merges_none ls (is_literal x l) h k = absurd (k refl)
merges_none ls (arithmetic r e) h k = refl

module _ (row : List ℤ) (ls : List ℕ) (k : ℕ) (kind : k ≡ tag_of (fact_of row)) where
  abbrev first : ℕ
  first = index (get_or row 1 (pos 0))

  abbrev second : ℕ
  second = index (get_or row 2 (pos 0))

  pub row_same : k ≡ 3 → merge_fact ls (fact_of row) ≡ merge_nodes ls (var_node first) (var_node second)
  row_same e = ap (merge_fact ls) (row_string row 3 (sym e ∙ kind) (omega arith))

  pub row_literal : k ≡ 5 → merge_fact ls (fact_of row) ≡ merge_nodes ls (var_node first) (lit_node second)
  row_literal e = ap (merge_fact ls) (row_string row 5 (sym e ∙ kind) (omega arith))

  pub row_merges_none : (k ≡ 3 → ⊥) → (k ≡ 5 → ⊥) → merge_fact ls (fact_of row) ≡ ls
  row_merges_none h g = merges_none ls (fact_of row) (λ e. h (kind ∙ e)) (λ e. g (kind ∙ e))

  pub row_sides : k ≡ 4 → sides_meet ls (fact_of row ∷ []) ≡ same_class ls (var_node first) (var_node second)
  row_sides e =
      ap (λ (f : Fact). sides_meet ls (f ∷ [])) (row_string row 4 (sym e ∙ kind) (omega arith))
      ∙ or-false (same_class ls (var_node first) (var_node second))

  pub row_no_sides : (k ≡ 4 → ⊥) → sides_meet ls (fact_of row ∷ []) ≡ false
  row_no_sides h = no_sides ls (fact_of row) (λ e. h (kind ∙ e))
