-- The columns' values of an answer of its form and in its ranges lie within ±100,000,000.
use Prim.Native.Nat.{ℕ, zero, suc, ◌+◌, ◌*◌, ◌/◌, ◌%◌, ◌≤◌}
use native.Mathlib.Omega.{arith}
use mathlib.Core.Path.{◌≡◌, refl, ◌∙◌, ap}
use mathlib.Core.Bool.{Bool, true, false, ◌&&◌}
use mathlib.Core.Option.{Option, none, some}
use mathlib.Core.List.{List, [], ◌∷◌, ◌++◌, map}
use lib.ListN.{get_or}
use lib.Dec.{leb, eqb}
use lib.IntN.{pos, nat_abs}
use borrow.Author.Tests.{leb-true}
use Rattle.lists.specs.Lists.{All}
use Rattle.lists.proofs.Lists.{all_append, all_get_d}
use Rattle.lists.proofs.Tests.{and_both}
use Rattle.calculus.specs.Limits.{length_limit, value_limit, alphabet_limit, Small}
use Rattle.calculus.specs.Alphabet.{all_characters}
use Rattle.calculus.specs.Facts.{Question, value_of, len, code}
use Rattle.format.specs.Fields.{all_within}
use Rattle.format.specs.Records.{size, kind, next, whole}
use Rattle.format.specs.Places.{skip, text_at, texts}
use Rattle.format.specs.Answer.{string_form, answer_form, integers_at, outside}
use Rattle.format.proofs.Fields.{length_u32s}
use Rattle.format.proofs.Limits.{within→}
use Rattle.question.proofs.Texts.{code_small}
use Rattle.assignment.specs.Form.{columns_at}

-- ---- what is not outside

-- every string is over the alphabet, and every integer is small
record Inside (b : List ℕ) (u : Question) (p at : ℕ) : Type 0 where
  strings : All (λ s. all_characters u.n s ≡ true) (texts b p at)
  integers : all_within value_limit (integers_at b u.q (skip b p at)) ≡ true

inside : (b : List ℕ) (u : Question) (p r at : ℕ) → outside b u p r at ≡ none → Inside b u p at
unfolding outside texts skip
inside b u zero r at e = record { strings = tt; integers = go (all_within value_limit (integers_at b u.q at)) e }
  where
    go : (t : Bool) → ◌≡◌ {A = Option ℕ} (elim t as (λ _. Option ℕ) [ true ↦ none | false ↦ some r ]) none → t ≡ true
    go true e = refl
    go false e = absurd (let z : ◌≡◌ {A = ℕ} 0 1 = cc in omega arith)
inside b u (suc p) r at e = go (all_characters u.n (text_at b at)) refl e (λ f. inside b u p (suc r) (next b at) f)
  where
    go : (t : Bool)
        → all_characters u.n (text_at b at) ≡ t
        → ◌≡◌ {A = Option ℕ} (elim t as (λ _. Option ℕ) [ true ↦ outside b u p (suc r) (next b at) | false ↦ some r ]) none
        → (outside b u p (suc r) (next b at) ≡ none → Inside b u p (next b at)) → Inside b u (suc p) at
    go true h f ih = let i = ih f in record { strings = (h, i.strings); integers = i.integers }
    go false h f ih = absurd (let z : ◌≡◌ {A = ℕ} 0 1 = cc in omega arith)

-- ---- the three stretches of columns

small_lengths : (b : List ℕ) (q p at : ℕ) → answer_form b p q at ≡ true → All (Small value_limit) (map (value_of len) (texts b p at))
unfolding answer_form texts
small_lengths b q zero at e = tt
small_lengths b q (suc p) at e =
    let (h, f) = and_both (string_form b at) (answer_form b p q (next b at)) e in
    let (w, h2) = and_both (whole b at) (eqb (kind b at) 9 && (eqb (size b at % 4) 0 && leb (size b at) (4 * length_limit))) h in
    let (k, h3) = and_both (eqb (kind b at) 9) (eqb (size b at % 4) 0 && leb (size b at) (4 * length_limit)) h2 in
    let short : size b at ≤ 4 * length_limit =
    leb-true (size b at) (4 * length_limit) (and_both (eqb (size b at % 4) 0) (leb (size b at) (4 * length_limit)) h3).1 in
    (omega (arith, length_u32s b (at + 6) (size b at / 4)), small_lengths b q p (next b at) f)

small_codes : (n : ℕ) (ss : List (List ℕ)) → n ≤ alphabet_limit → All (λ s. all_characters n s ≡ true) ss → All (Small value_limit) (map (value_of code) ss)
small_codes n [] h e = tt
small_codes n (s ∷ ss) h e = (omega (arith, code_small n s h e.0), small_codes n ss h e.1)

pub small_columns : (b : List ℕ) (u : Question) → u.n ≤ alphabet_limit → answer_form b u.p u.q 0 ≡ true → outside b u u.p 0 0 ≡ none
    → (j : ℕ) → nat_abs (get_or (columns_at b u.p u.q) j (pos 0)) ≤ value_limit
unfolding columns_at
small_columns b u h f e j =
    let i = inside b u u.p 0 0 e in
    let ss = texts b u.p 0 in
    let zs = integers_at b u.q (skip b u.p 0) in
    all_get_d (Small value_limit) (zs ++ (map (value_of len) ss ++ map (value_of code) ss)) j (pos 0) (omega arith)
    (all_append (Small value_limit) zs (map (value_of len) ss ++ map (value_of code) ss) (within→ value_limit zs i.integers)
    (all_append (Small value_limit) (map (value_of len) ss) (map (value_of code) ss) (small_lengths b u.q u.p 0 f) (small_codes u.n ss h i.strings)))

-- only the alphabet and the number of integers of a question matter
pub outside_same : (b : List ℕ) (u w : Question) (p r at : ℕ) → u.n ≡ w.n → u.q ≡ w.q → outside b u p r at ≡ outside b w p r at
unfolding outside
outside_same b u w zero r at e f = ap (λ (q : ℕ). elim (all_within value_limit (integers_at b q at)) as (λ _. Option ℕ) [ true ↦ none | false ↦ some r ]) f
outside_same b u w (suc p) r at e f =
    ap (λ (n : ℕ). elim (all_characters n (text_at b at)) as (λ _. Option ℕ) [ true ↦ outside b u p (suc r) (next b at) | false ↦ some r ]) e
    ∙ ap (λ (o : Option ℕ). elim (all_characters w.n (text_at b at)) as (λ _. Option ℕ) [ true ↦ o | false ↦ some r ])
    (outside_same b u w p (suc r) (next b at) e f)
