-- The first number that applies to a record, test by test.
use mathlib.Core.Path.{◌≡◌, refl, sym, ◌∙◌, ap}
use mathlib.Core.Bool.{Bool, true, false, not, cond, ◌&&◌, ◌||◌}
use mathlib.Core.List.{List}
use Prim.Native.Nat.{ℕ, zero, suc, ◌+◌, ◌-◌, ◌/◌, ◌%◌, ◌≤◌, ◌<◌}
use native.Mathlib.Omega.{arith}
use lib.ListN.{length}
use lib.Dec.{leb, ltb, eqb}
use borrow.Author.Tests.{ltb-true, leb-true, eqb-true, le-leb, lt-leb, eq-eqb, ne_eqb}
use Rattle.lists.proofs.Tests.{and_both}
use Rattle.calculus.specs.Limits.{alphabet_limit, variable_limit, literal_limit, column_limit}
use Rattle.calculus.specs.Alphabet.{all_characters}
use Rattle.calculus.specs.Facts.{arithmetic}
use Rattle.calculus.specs.Strings.{given}
use Rattle.format.specs.Fields.{u16, u32}
use Rattle.format.specs.Records.{size, kind, next, whole, need}
use Rattle.format.specs.Question.{head_kind, literal_kind, string_kind, arithmetic_kind, extended_kind, head_rank, literal_rank, string_rank, arithmetic_rank}
use Rattle.format.specs.Question.{extended_rank, rank_of, Progress, Manner, head_range, head_fault, text_of, literal_length, literal_fault}
use Rattle.format.specs.Question.{three_fault, extended_range, extended_fault}
use Rattle.format.specs.Question.{string_range, string_fact, string_fault, form_range, form_of, relation_of, arithmetic_fault, fact_fault}
use Rattle.format.specs.Question.{body_fact, rank_in_place, in_place, question_body_fault, form_fault, finds_room, or_crowded, question_fault}
use Rattle.format.proofs.Faults.{none_applies}

-- ---- a whole record, of a kind k and a size n

module _ (m : Manner) (b : List ℕ) (s : Progress) (at k n : ℕ) (ek : k ≡ kind b at) (en : n ≡ size b at) (h : at + 6 + n ≤ length b) where
  abbrev body : ℕ
  body = question_body_fault b s.question k (at + 6) n

  by_tests : or_crowded (need 4 (in_place m.greatest s k) body) (finds_room m s k) ≡ question_fault m b s at
  unfolding question_fault form_fault
  by_tests = rw (ek, en) (rw (le-leb (next b at) (length b) (rw en at h)))

  pub out_of_place : in_place m.greatest s k ≡ false → 4 ≡ question_fault m b s at
  out_of_place e = sym (ap (λ t. or_crowded (need 4 t body) (finds_room m s k)) e) ∙ by_tests

  module _ (f : ℕ) (e : in_place m.greatest s k ≡ true) (ef : f ≡ question_body_fault b s.question k (at + 6) n) where
    by_body : or_crowded f (finds_room m s k) ≡ question_fault m b s at
    by_body = ap (λ c. or_crowded c (finds_room m s k)) ef ∙ sym (ap (λ t. or_crowded (need 4 t body) (finds_room m s k)) e) ∙ by_tests

    pub ill_formed : (f ≡ 0 → ⊥) → f ≡ question_fault m b s at
    ill_formed z = other f z ∙ by_body
      where
        other : (f : ℕ) → (f ≡ 0 → ⊥) → f ≡ or_crowded f (finds_room m s k)
        other zero z = absurd (z refl)
        other (suc f) z = refl

    pub by_room : (room : Bool) → f ≡ 0 → finds_room m s k ≡ room → need 10 room 0 ≡ question_fault m b s at
    by_room room z e = sym (ap (λ t. need 10 t 0) e) ∙ sym (ap (λ c. or_crowded c (finds_room m s k)) z) ∙ by_body

-- ---- a record that is cut

pub cut_short : (m : Manner) (b : List ℕ) (s : Progress) (at : ℕ) → length b < next b at → question_fault m b s at ≡ 3
unfolding question_fault form_fault
cut_short m b s at h = rw (lt-leb (next b at) (length b) h)

-- ---- no number applies

-- the form has no fault, and the record finds room
pub uncrowded : (m : Manner) (b : List ℕ) (s : Progress) (at : ℕ)
    → question_fault m b s at ≡ 0
    → (form_fault m.greatest b s at ≡ 0) × (finds_room m s (kind b at) ≡ true)
unfolding question_fault
uncrowded m b s at e = go (form_fault m.greatest b s at) e
  where
    go : (c : ℕ) → or_crowded c (finds_room m s (kind b at)) ≡ 0 → (c ≡ 0) × (finds_room m s (kind b at) ≡ true)
    go zero e = (refl, (none_applies 9 (finds_room m s (kind b at)) 0 e).0)
    go (suc c) e = absurd (omega arith)

pub →uncrowded : (m : Manner) (b : List ℕ) (s : Progress) (at : ℕ)
    → form_fault m.greatest b s at ≡ 0
    → finds_room m s (kind b at) ≡ true
    → question_fault m b s at ≡ 0
unfolding question_fault
→uncrowded m b s at e r = ap (λ c. or_crowded c (finds_room m s (kind b at))) e ∙ ap (λ x. need 10 x 0) r

pub record Passed (greatest : ℕ) (b : List ℕ) (s : Progress) (at : ℕ) : Type 0 where
  pub all_there : next b at ≤ length b
  pub in_place_law : in_place greatest s (kind b at) ≡ true
  pub body_formed : question_body_fault b s.question (kind b at) (at + 6) (size b at) ≡ 0

pub passed : (greatest : ℕ) (b : List ℕ) (s : Progress) (at : ℕ) → form_fault greatest b s at ≡ 0 → Passed greatest b s at
unfolding form_fault
passed greatest b s at e =
    let body : ℕ = question_body_fault b s.question (kind b at) (at + 6) (size b at) in
    let a3 = none_applies 2 (whole b at) (need 4 (in_place greatest s (kind b at)) body) e in
    let a4 = none_applies 3 (in_place greatest s (kind b at)) body a3.1 in
    record { all_there = leb-true _ _ a3.0; in_place_law = a4.0; body_formed = a4.1 }

-- the rank of kind 11 is the greatest, and no other kind's
pub rank_most : (k : ℕ) → rank_of k ≤ extended_rank
unfolding rank_of
rank_most k = go (eqb k head_kind) (eqb k literal_kind) (eqb k string_kind) (eqb k arithmetic_kind) (eqb k extended_kind)
  where
    go : (v w x y z : Bool) → cond v head_rank (cond w literal_rank (cond x string_rank (cond y arithmetic_rank (cond z extended_rank 0)))) ≤ extended_rank
    go true w x y z = omega arith
    go false true x y z = omega arith
    go false false true y z = omega arith
    go false false false true z = omega arith
    go false false false false true = omega arith
    go false false false false false = omega arith

pub extended_kind_law : (k : ℕ) → rank_of k ≡ extended_rank → k ≡ extended_kind
unfolding rank_of
extended_kind_law k e = go (eqb k head_kind) (eqb k literal_kind) (eqb k string_kind) (eqb k arithmetic_kind) (eqb k extended_kind) refl e
  where
    go : (v w x y z : Bool)
        → eqb k extended_kind ≡ z
        → cond v head_rank (cond w literal_rank (cond x string_rank (cond y arithmetic_rank (cond z extended_rank 0)))) ≡ extended_rank
        → k ≡ extended_kind
    go true w x y z f e = absurd (omega arith)
    go false true x y z f e = absurd (omega arith)
    go false false true y z f e = absurd (omega arith)
    go false false false true z f e = absurd (omega arith)
    go false false false false true f e = eqb-true k extended_kind f
    go false false false false false f e = absurd (omega arith)

-- a rank in its place: the head is the first, and others stand after it
pub record Behind (greatest last literals r : ℕ) : Type 0 where
  pub head_read : head_rank ≤ last
  pub at_least : literal_rank ≤ r
  pub no_earlier : last ≤ r
  pub at_most : r ≤ greatest
  pub few_literals : r ≡ literal_rank → literals < literal_limit

module _ (greatest last literals r : ℕ) (e : rank_in_place greatest last literals r ≡ true) where
  pub head_first : r ≡ head_rank → last ≡ 0
  head_first h = eqb-true last 0 (rw (eq-eqb r head_rank h) at e)

  pub behind_head : (r ≡ head_rank → ⊥) → Behind greatest last literals r
  behind_head h =
      let few : Bool = not (eqb r literal_rank) || ltb literals literal_limit in
      let a1 = and_both (leb head_rank last) (leb literal_rank r && (leb last r && (leb r greatest && few))) (rw (ne_eqb r head_rank h) at e) in
      let a2 = and_both (leb literal_rank r) (leb last r && (leb r greatest && few)) a1.1 in
      let a3 = and_both (leb last r) (leb r greatest && few) a2.1 in
      let a4 = and_both (leb r greatest) few a3.1 in
      record {
        head_read = leb-true _ _ a1.0;
        at_least = leb-true _ _ a2.0;
        no_earlier = leb-true _ _ a3.0;
        at_most = leb-true _ _ a4.0;
        few_literals = λ g. ltb-true literals literal_limit (rw (eq-eqb r literal_rank g) at a4.1);
      }

-- where kind 11 is not taken, what has no fault is of another rank
pub rank_extended : rank_of extended_kind ≡ extended_rank
unfolding rank_of
rank_extended = refl

pub not_extended : (greatest : ℕ) (b : List ℕ) (s : Progress) (at : ℕ) → greatest < extended_rank → form_fault greatest b s at ≡ 0
    → rank_of (kind b at) ≡ extended_rank → ⊥
not_extended greatest b s at l f k =
    let no-head : rank_of (kind b at) ≡ head_rank → ⊥ = λ z. omega arith in
    let place = (passed greatest b s at f).in_place_law in
    omega (arith, (behind_head greatest s.last (length s.question.literals) (rank_of (kind b at)) place no-head).at_most)

-- ---- a body without fault

-- a head, a literal
pub record Head (b : List ℕ) (at m : ℕ) : Type 0 where
  pub eight : m ≡ 8
  pub some_character : 1 ≤ u32 b at
  pub few_characters : u32 b at ≤ alphabet_limit
  pub few_strings : u16 b (at + 4) ≤ variable_limit
  pub few_integers : u16 b (at + 6) ≤ variable_limit

pub head_formed : (b : List ℕ) (at m : ℕ) → head_fault b at m ≡ 0 → Head b at m
head_formed b at m e =
    let a5 = none_applies 4 (eqb m 8) (need 6 (head_range b at) 0) e in
    let r1 =
    and_both (leb 1 (u32 b at)) (leb (u32 b at) alphabet_limit && (leb (u16 b (at + 4)) variable_limit && leb (u16 b (at + 6)) variable_limit))
    (none_applies _ _ _ a5.1).0 in
    let r2 = and_both _ _ r1.1 in
    let r3 = and_both _ _ r2.1 in
    record {
      eight = eqb-true _ _ a5.0;
      some_character = leb-true _ _ r1.0;
      few_characters = leb-true _ _ r2.0;
      few_strings = leb-true _ _ r3.0;
      few_integers = leb-true _ _ r3.1;
    }

pub record Literal (b : List ℕ) (n at m : ℕ) : Type 0 where
  pub some_character : 4 ≤ m
  pub short : m ≤ 256
  pub characters_whole : m % 4 ≡ 0
  pub characters_over : all_characters n (text_of b at m) ≡ true

pub literal_formed : (b : List ℕ) (n : ℕ) (ls : List (List ℕ)) (at m : ℕ) → literal_fault b n ls at m ≡ 0 → Literal b n at m
literal_formed b n ls at m e =
    let a5 =
    none_applies 4 (literal_length m)
    (need 6 (all_characters n (text_of b at m)) (need 7 (not (given (text_of b at m) ls)) 0)) e in
    let l1 = and_both (leb 4 m) _ a5.0 in
    let l2 = and_both _ _ l1.1 in
    record {
      some_character = leb-true _ _ l1.0;
      short = omega (arith, leb-true m _ l2.0);
      characters_whole = eqb-true _ _ l2.1;
      characters_over = (none_applies _ _ _ a5.1).0;
    }

-- a body of three fields
three_formed : (range : ℕ → ℕ → ℕ → Bool) (b : List ℕ) (at m : ℕ) → three_fault range b at m ≡ 0
    → (m ≡ 6) × (range (u16 b at) (u16 b (at + 2)) (u16 b (at + 4)) ≡ true)
three_formed range b at m e =
    let t : Bool = range (u16 b at) (u16 b (at + 2)) (u16 b (at + 4)) in
    let a5 = none_applies 4 (eqb m 6) (need 6 t 0) e in
    (eqb-true _ _ a5.0, (none_applies 5 t 0 a5.1).0)

-- a string constraint of m bytes: relation r and operands x and y, over p variables and k literals besides the empty one
pub record StringConstraint (p k m r x y : ℕ) : Type 0 where
  pub six : m ≡ 6
  pub relation : r ≤ 2
  pub first : x < p
  pub second : (r ≡ 2 → ⊥) → y < p
  pub literal : r ≡ 2 → y ≤ k

pub string_constraint_formed : (b : List ℕ) (p k at m : ℕ) → string_fault b p k at m ≡ 0 → StringConstraint p k m (u16 b at) (u16 b (at + 2)) (u16 b (at + 4))
string_constraint_formed b p k at m e =
    let r : ℕ = u16 b at in
    let x : ℕ = u16 b (at + 2) in
    let y : ℕ = u16 b (at + 4) in
    let (size, range) = three_formed (string_range p k) b at m e in
    let r1 = and_both (leb r 2) (ltb x p && cond (eqb r 2) (leb y k) (ltb y p)) range in
    let r2 = and_both (ltb x p) (cond (eqb r 2) (leb y k) (ltb y p)) r1.1 in
    record {
      six = size;
      relation = leb-true _ _ r1.0;
      first = ltb-true _ _ r2.0;
      second = λ h. ltb-true y p (ap (λ (t : Bool). cond t (leb y k) (ltb y p)) (sym (ne_eqb r 2 h)) ∙ r2.1);
      literal = λ h. leb-true y k (ap (λ (t : Bool). cond t (leb y k) (ltb y p)) (sym (eq-eqb r 2 h)) ∙ r2.1);
    }

-- an extended constraint of m bytes: function f and operands x and y, over p string and q integer variables
pub record ExtendedConstraint (p q m f x y : ℕ) : Type 0 where
  pub six : m ≡ 6
  pub function : f ≤ 4
  pub first : x < cond (eqb f 2) q p
  pub second : y < cond (eqb f 3) q p

pub extended_constraint_formed : (b : List ℕ) (p q at m : ℕ) → extended_fault b p q at m ≡ 0
    → ExtendedConstraint p q m (u16 b at) (u16 b (at + 2)) (u16 b (at + 4))
extended_constraint_formed b p q at m e =
    let f : ℕ = u16 b at in
    let x : ℕ = u16 b (at + 2) in
    let y : ℕ = u16 b (at + 4) in
    let (size, range) = three_formed (extended_range p q) b at m e in
    let r1 = and_both (leb f 4) (ltb x (cond (eqb f 2) q p) && ltb y (cond (eqb f 3) q p)) range in
    let r2 = and_both (ltb x (cond (eqb f 2) q p)) (ltb y (cond (eqb f 3) q p)) r1.1 in
    record { six = size; function = leb-true _ _ r1.0; first = ltb-true _ _ r2.0; second = ltb-true _ _ r2.1 }

-- an arithmetic constraint of m bytes at a position, over c columns
pub record ArithmeticConstraint (b : List ℕ) (c at m : ℕ) : Type 0 where
  pub at_least : 6 ≤ m
  pub pairs_whole : m % 6 ≡ 0
  pub few_pairs : m / 6 ≤ suc column_limit
  pub relation : u16 b at ≤ 2
  pub is_in_range : form_range b c (at + 2) (m / 6 - 1) ≡ true

pub arithmetic_constraint_formed : (b : List ℕ) (c at m : ℕ) → arithmetic_fault b c at m ≡ 0 → ArithmeticConstraint b c at m
arithmetic_constraint_formed b c at m e =
    let range : Bool = leb (u16 b at) 2 && form_range b c (at + 2) (m / 6 - 1) in
    let a5 = none_applies 4 (leb 6 m && (eqb (m % 6) 0 && leb (m / 6) (suc column_limit))) (need 6 range 0) e in
    let l1 = and_both (leb 6 m) (eqb (m % 6) 0 && leb (m / 6) (suc column_limit)) a5.0 in
    let l2 = and_both (eqb (m % 6) 0) (leb (m / 6) (suc column_limit)) l1.1 in
    let r1 = and_both (leb (u16 b at) 2) (form_range b c (at + 2) (m / 6 - 1)) (none_applies 5 range 0 a5.1).0 in
    record {
      at_least = leb-true _ _ l1.0;
      pairs_whole = eqb-true _ _ l2.0;
      few_pairs = leb-true _ _ l2.1;
      relation = leb-true _ _ r1.0;
      is_in_range = r1.1;
    }

-- a body of kind k and the fact that it states
pub data FactBody (b : List ℕ) (p l c k at m : ℕ) : Type 0 where
  on_strings : k ≡ string_kind
      → StringConstraint p l m (u16 b at) (u16 b (at + 2)) (u16 b (at + 4))
      → body_fact b k at m ≡ string_fact (u16 b at) (u16 b (at + 2)) (u16 b (at + 4))
      → FactBody b p l c k at m
  on_columns : k ≡ arithmetic_kind → ArithmeticConstraint b c at m → body_fact b k at m ≡ arithmetic (relation_of (u16 b at)) (form_of b (at + 2) (m / 6 - 1))
      → FactBody b p l c k at m

pub fact_formed : (b : List ℕ) (p l c k at m : ℕ) → fact_fault b p l c k at m ≡ 0 → FactBody b p l c k at m
unfolding fact_fault
fact_formed b p l c k at m e = go (eqb k string_kind) (eqb k arithmetic_kind) refl refl e
  where
    go : (x y : Bool)
        → eqb k string_kind ≡ x
        → eqb k arithmetic_kind ≡ y
        → cond x (string_fault b p l at m) (cond y (arithmetic_fault b c at m) 4) ≡ 0
        → FactBody b p l c k at m
    go true y ex ey f = on_strings (eqb-true _ _ ex) (string_constraint_formed b p l at m f) (rw ex)
    go false true ex ey f = on_columns (eqb-true _ _ ey) (arithmetic_constraint_formed b c at m f) (rw ex)
    go false false ex ey f = absurd (omega arith)
