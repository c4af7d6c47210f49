-- The unions of a branch's first facts, and of one fact more.
use Prim.Native.Nat.{ℕ, ◌+◌, ◌<◌, ◌≤◌}
use native.Mathlib.Numerals.{add-one}
use native.Mathlib.Omega.{arith}
use mathlib.Core.Path.{◌≡◌, refl, sym, ◌∙◌, ap, ap₂}
use mathlib.Core.Logic.{◌≢◌}
use mathlib.Core.Bool.{Bool, true, false, cond}
use mathlib.Core.List.{List, [], ◌∷◌, ◌++◌}
use lib.ListN.{get_or, take, get_or-map}
use lib.Seq.{take-suc}
use lib.IntN.{ℤ}
use Rattle.lists.proofs.Lists.{element_get_d}
use Rattle.calculus.specs.Facts.{Fact, same, not_same, is_literal, arithmetic, ge, eq, ne}
use Rattle.calculus.specs.Cores.{Set, union, Rested, sets_of, set_at, equates, separates}
use Rattle.rows.specs.Rows.{fact_of, row_at, branch_of}
use Rattle.rows.specs.Work.{tag_of}
use Rattle.rows.proofs.Branches.{branch_at}
use Rattle.cores.specs.declared.Words.{Words}
use Rattle.cores.specs.declared.Unions.{Unions}
use Rattle.cores.specs.Words.{words_of, union_of, unions_of}
use Rattle.cores.specs.Sets.{Stands}
use Rattle.cores.proofs.Laws.{union_nil, words_union, sets_append}

abbrev pub both_unions : Words → Words → Unions
both_unions e s = record { equates = e; separates = s }

-- ---- which facts are ≈ facts and which ≉ facts, by the tags of their rows

arithmetic_neither : (f : Fact) → tag_of f ≤ 2 → (equates f ≡ false) × (separates f ≡ false)
unfolding tag_of
arithmetic_neither (same x y) h = absurd (omega arith)
arithmetic_neither (not_same x y) h = absurd (omega arith)
arithmetic_neither (is_literal x l) h = absurd (omega arith)
arithmetic_neither (arithmetic r e) h = (refl, refl)

only_separates : (f : Fact) → tag_of f ≡ 4 → (equates f ≡ false) × (separates f ≡ true)
unfolding tag_of
only_separates (same x y) h = absurd (omega arith)
only_separates (not_same x y) h = (refl, refl)
only_separates (is_literal x l) h = absurd (omega arith)
only_separates (arithmetic ge e) h = absurd (omega arith)
only_separates (arithmetic eq e) h = absurd (omega arith)
only_separates (arithmetic ne e) h = absurd (omega arith)

only_equates : (f : Fact) → 2 < tag_of f → tag_of f ≢ 4 → (equates f ≡ true) × (separates f ≡ false)
unfolding tag_of
only_equates (same x y) h n = (refl, refl)
only_equates (not_same x y) h n = absurd (n refl)
only_equates (is_literal x l) h n = (refl, refl)
only_equates (arithmetic ge e) h n = absurd (omega arith)
only_equates (arithmetic eq e) h n = absurd (omega arith)
only_equates (arithmetic ne e) h n = absurd (omega arith)

-- ---- one fact more

module _ (r : Rested) (f : Fact) (s : Set) where
  abbrev more : Rested
  more = r ++ ((f, s) ∷ [])

  sets_more : (t : Fact → Bool) (b : Bool) → t f ≡ b → sets_of t more ≡ union (sets_of t r) (cond b s [])
  unfolding sets_of
  sets_more t b e = sets_append t r ((f, s) ∷ []) ∙ ap (union (sets_of t r)) (union_nil (cond (t f) s []) ∙ ap (λ (x : Bool). cond x s []) e)

  sets_out : (t : Fact → Bool) → t f ≡ false → words_of (sets_of t more) ≡ words_of (sets_of t r)
  sets_out t e = ap words_of (sets_more t false e ∙ union_nil (sets_of t r))

  module _ (u : Unions) (x : Words) (before : u ≡ unions_of r) (its : x ≡ words_of s) where
    sets_in : (t : Fact → Bool) (a : Words) → a ≡ words_of (sets_of t r) → t f ≡ true → union_of a x ≡ words_of (sets_of t more)
    sets_in t a d e = ap₂ union_of d its ∙ sym (ap words_of (sets_more t true e) ∙ words_union (sets_of t r) s)

    pub unions_kept : tag_of f ≤ 2 → u ≡ unions_of more
    unions_kept h =
        let (e, d) = arithmetic_neither f h in
        before ∙ sym (ap₂ both_unions (sets_out equates e) (sets_out separates d))

    pub unions_separated : tag_of f ≡ 4 → both_unions u.equates (union_of u.separates x) ≡ unions_of more
    unions_separated h =
        let (e, d) = only_separates f h in
        ap₂ both_unions (ap (λ (o : Unions). o.equates) before ∙ sym (sets_out equates e))
        (sets_in separates u.separates (ap (λ (o : Unions). o.separates) before) d)

    pub unions_equated : 2 < tag_of f → tag_of f ≢ 4 → both_unions (union_of u.equates x) u.separates ≡ unions_of more
    unions_equated h n =
        let (e, d) = only_equates f h n in
        ap₂ both_unions (sets_in equates u.equates (ap (λ (o : Unions). o.equates) before) e)
        (ap (λ (o : Unions). o.separates) before ∙ sym (sets_out separates d))

-- ---- the facts up to a place

-- fact k is that of row k, and its set the one at its place
pub stands_more : {w : List ℤ} {v : List Words} {count : ℕ} {r : Rested} (k : ℕ) → Stands w v count r → k < count
    → take (k + 1) r ≡ take k r ++ ((fact_of (row_at w k), set_at r k) ∷ [])
stands_more {w} {v} {count} {r} k h l =
    let none : Fact × Set = (arithmetic ge [], []) in
    let fact : (get_or r k none).0 ≡ fact_of (row_at w k) =
    sym (get_or-map (λ (f : Fact × Set). f.0) r k none)
    ∙ ap (λ b. get_or b k (arithmetic ge [])) h.rows
    ∙ element_get_d (branch_of w count) k (fact_of (row_at w k)) (arithmetic ge []) (branch_at w count k l) in
    let its : (get_or r k none).1 ≡ set_at r k = sym (get_or-map (λ (f : Fact × Set). f.1) r k none) in
    ap (λ (i : ℕ). take i r) (add-one k)
    ∙ take-suc r k none (omega (arith, h.carried.all))
    ∙ ap₂ (λ (f : Fact) (s : Set). take k r ++ ((f, s) ∷ [])) fact its
