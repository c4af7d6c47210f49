-- A question that is read stands in the bytes: what holds where reading began holds after each record, and where it ended.
use mathlib.Core.Path.{◌≡◌, refl, sym, ◌∙◌, ap, subst}
use mathlib.Core.Logic.{inl, inr}
use mathlib.Core.Bool.{Bool, true, false}
use mathlib.Core.List.{List}
use Prim.Native.Nat.{ℕ, zero, suc, ◌+◌, ◌-◌, ◌<◌, ◌≤◌}
use native.Mathlib.Omega.{arith}
use native.Mathlib.Numerals.{add-one}
use native.Mathlib.Decide.{ℕ_discrete, dec_lt}
use lib.ListN.{length}
use lib.Dec.{leb}
use borrow.Author.Count.{below_more}
use borrow.Author.Tests.{leb-true, leb-false, eq-eqb, ne_eqb}
use Rattle.calculus.specs.Limits.{ticket_bytes, fact_limit}
use Rattle.calculus.specs.Extended.{basic, constraints_of}
use Rattle.format.specs.Records.{size, kind, next}
use Rattle.format.specs.Question.{head_rank, literal_rank, extended_rank, rank_of, extended_kind, by_rank, Progress, Manner, question_fault}
use Rattle.format.specs.Question.{question_advanced, unread}
use Rattle.format.specs.Question.{Ended, ending, read_on, read_in}
use Rattle.format.specs.Places.{skip, fact_at, constraint_at, texts, facts_at, extendeds_at, constraints_at, literals_from, constraints_from, Numbers, read_to}
use Rattle.format.specs.Standing.{LiteralAt, FactAt, ExtendedAt, ConstraintAt, StandsTo, NextAt}
use Rattle.format.proofs.Faults.{clash}
use Rattle.format.proofs.Turns.{read_none, read_ended, read_stopped, read_more, read_long, read_begin}
use Rattle.format.proofs.Places.{skip_far, skip_snoc, skip_add, skip_room, skip_up, length_texts, length_facts, length_extended, constraints_join}
use Rattle.format.proofs.Places.{headed, and_literal, and_constraint, and_extended, read_head, read_literal, read_constraint, read_extended}
use Rattle.format.proofs.RecordFaults.{uncrowded, Passed, passed, rank_most, extended_kind_law, head_first, Behind, behind_head}
use Rattle.format.proofs.RecordFaults.{Head, head_formed, literal_formed, FactBody, on_strings, on_columns, fact_formed}
use Rattle.format.proofs.Asked.{read_few}

-- ---- the numbers are all that is kept

pub same_numbers : (b : List ℕ) (s t : Numbers) → read_to b s ≡ read_to b t → s ≡ t
same_numbers b s t e =
    let literals : s.literals ≡ t.literals =
    sym (length_texts b s.literals literals_from)
    ∙ ap (λ (u : Progress). length u.question.literals) e
    ∙ length_texts b t.literals literals_from in
    let constraints : s.constraints ≡ t.constraints =
    sym (length_facts b s.constraints (skip b s.literals literals_from))
    ∙ ap (λ (u : Progress). length u.question.constraints) e
    ∙ length_facts b t.constraints (skip b t.literals literals_from) in
    let extended : s.extended ≡ t.extended =
    sym (length_extended b s.extended (skip b s.constraints (skip b s.literals literals_from)))
    ∙ ap (λ (u : Progress). length u.extended) e
    ∙ length_extended b t.extended (skip b t.constraints (skip b t.literals literals_from)) in
    let last : s.last ≡ t.last = ap (λ (u : Progress). u.last) e in
    let n : s.n ≡ t.n = ap (λ (u : Progress). u.question.n) e in
    let p : s.p ≡ t.p = ap (λ (u : Progress). u.question.p) e in
    let q : s.q ≡ t.q = ap (λ (u : Progress). u.question.q) e in
    rw (last, n, p, q, literals, constraints, extended)

-- ---- positions

pub literals_within : (b : List ℕ) (s : Numbers) (at l : ℕ)
    → StandsTo b s at
    → head_rank ≤ s.last
    → l ≤ s.literals
    → skip b l literals_from ≤ length b
literals_within b s at l h g few =
    let from : ℕ = skip b s.literals literals_from in
    omega (
      arith,
      h.ends_here g,
      skip_up b l s.literals literals_from few,
      skip_far b s.constraints from,
      skip_far b s.extended (skip b s.constraints from),
      h.within,
    )

-- ---- constraints

module _ (b : List ℕ) (s : Numbers) (at : ℕ) (h : StandsTo b s at) where
  abbrev from : ℕ
  from = constraints_from b s.literals

  -- a constraint of kind 3 or 4
  basic_at : (j : ℕ) → j < s.constraints → basic (fact_at b (skip b j from)) ≡ constraint_at b (skip b j from)
  basic_at j l = let i : ℕ = skip b j from in by (kind b i) (fact_formed b _ _ _ (kind b i) _ _ (h.constraints_stand j l).formed) refl
    where
      here : ℕ
      here = skip b j (constraints_from b s.literals)

      by : (k : ℕ) {p n c i m : ℕ} → FactBody b p n c k i m → kind b here ≡ k → basic (fact_at b here) ≡ constraint_at b here
      by k (on_strings e f q) g = sym (rw (ne_eqb (kind b here) extended_kind (λ z. omega arith)))
      by k (on_columns e f q) g = sym (rw (ne_eqb (kind b here) extended_kind (λ z. omega arith)))

  -- all constraints stand one after another
  pub all_constraints : constraints_of (read_to b s).question (read_to b s).extended ≡ constraints_at b (s.constraints + s.extended) from
  all_constraints =
      constraints_join b s.constraints s.extended from basic_at
      (λ j l. sym (rw (eq-eqb (kind b (skip b j (skip b s.constraints from))) extended_kind (h.extended_stand j l).of_kind)))

  -- up to the position where reading arrived, so each is whole
  pub constraint_whole : head_rank ≤ s.last → (k : ℕ) → k < s.constraints + s.extended → next b (skip b k from) ≤ length b
  constraint_whole g k l =
      omega (
        arith,
        skip_room b k (s.constraints + s.extended) from l,
        skip_add b s.constraints s.extended from,
        h.ends_here g,
        h.within,
      )

  -- and each is of one of the two sorts
  pub judged_at : (k : ℕ) → k < s.constraints + s.extended → ConstraintAt b s.p s.q s.literals (skip b k from)
  judged_at k l = go (dec_lt k s.constraints)
    where
      go : Dec (k < s.constraints) → ConstraintAt b s.p s.q s.literals (skip b k (constraints_from b s.literals))
      go (yes g) = inl (h.constraints_stand k g)
      go (no g) =
          let j : ℕ = k - s.constraints in
          let sum : s.constraints + j ≡ k = omega arith in
          inr (subst (ExtendedAt b s.p s.q)
          (sym (skip_add b s.constraints j (constraints_from b s.literals)) ∙ ap (λ i. skip b i (constraints_from b s.literals)) sum)
          (h.extended_stand j (omega arith)))

-- ---- one record more

abbrev pub after : List ℕ → Numbers → ℕ → Numbers
after b s at = by_rank (rank_of (kind b at)) (headed b at) (and_literal s) (and_constraint s (rank_of (kind b at))) (and_extended s)

module _ (b : List ℕ) (s : Numbers) (at : ℕ) (w : NextAt b s at) where
  abbrev rank : ℕ
  rank = rank_of (kind b at)

  no_fault : Passed w.greatest b (read_to b s) at
  no_fault = passed w.greatest b (read_to b s) at w.formed

  behind : (rank ≡ head_rank → ⊥) → Behind w.greatest s.last (length (texts b s.literals literals_from)) rank
  behind x = behind_head _ _ _ _ no_fault.in_place_law x

  -- where the next record stands: after the literals, before any constraint; after the constraints, before any extended one; after these
  literal_here : rank ≡ literal_rank → (at ≡ skip b s.literals literals_from) × (s.constraints ≡ 0) × (s.extended ≡ 0)
  unfolding skip
  literal_here k =
      let g = behind (λ z. absurd (omega arith)) in
      let none : s.constraints ≡ 0 = w.stands.literals_first (omega (arith, g.no_earlier)) in
      let none-extended : s.extended ≡ 0 = w.stands.facts_first (omega (arith, g.no_earlier)) in
      (w.stands.ends_here g.head_read ∙ rw (none, none-extended), none, none-extended)

  constraint_here : (rank ≡ head_rank → ⊥) → (rank ≡ extended_rank → ⊥) → (at ≡ skip b s.constraints (skip b s.literals literals_from)) × (s.extended ≡ 0)
  unfolding skip
  constraint_here x z =
      let g = behind x in
      let none : s.extended ≡ 0 = w.stands.facts_first (omega (arith, g.no_earlier, rank_most (kind b at), z)) in
      (w.stands.ends_here g.head_read ∙ rw none, none)

  extended_here : rank ≡ extended_rank → at ≡ skip b s.extended (skip b s.constraints (skip b s.literals literals_from))
  extended_here k = w.stands.ends_here (behind (λ z. absurd (omega arith))).head_read

  pub after_advanced : read_to b (after b s at) ≡ question_advanced b (read_to b s) at
  after_advanced = go (ℕ_discrete rank head_rank) (ℕ_discrete rank literal_rank) (ℕ_discrete rank extended_rank)
    where
      go : Dec (rank ≡ head_rank) → Dec (rank ≡ literal_rank) → Dec (rank ≡ extended_rank) → read_to b (after b s at) ≡ question_advanced b (read_to b s) at
      go (yes k) d e = rw (eq-eqb _ _ k) (read_head b (read_to b s) at k)
      go (no x) (yes k) e =
          let (here, none, none-extended) = literal_here k in
          rw (ne_eqb _ _ x, eq-eqb _ _ k) (read_literal b s at k none none-extended here)
      go (no x) (no y) (yes k) = rw (ne_eqb _ _ x, ne_eqb _ _ y, eq-eqb _ _ k) (read_extended b s at k (extended_here k))
      go (no x) (no y) (no z) =
          let (here, none) = constraint_here x z in
          rw (ne_eqb _ _ x, ne_eqb _ _ y, ne_eqb _ _ z)
          (read_constraint b s at (ne_eqb _ _ x) (ne_eqb _ _ y) (ne_eqb _ _ z) none here)

  -- a head that was read
  head_here : rank ≡ head_rank → (at ≡ 0) × Head b (at + 6) (size b at)
  head_here k = (
    w.stands.nothing_yet (head_first _ _ (length (texts b s.literals literals_from)) _ no_fault.in_place_law k),
    head_formed b (at + 6) (size b at) (rw (eq-eqb _ _ k) at no_fault.body_formed),
  )

  -- its body is within the bytes
  pub head_size : rank ≡ head_rank → at + 6 + 8 ≤ length b
  head_size k = omega (arith, (head_here k).1.eight, no_fault.all_there)

  after_head : rank ≡ head_rank → StandsTo b (headed b at) (next b at)
  unfolding skip
  after_head k =
      let (first, f) = head_here k in
      record {
        within = no_fault.all_there;
        some_character = λ _. f.some_character;
        few_characters = f.few_characters;
        few_strings = f.few_strings;
        few_integers = f.few_integers;
        few_literals = omega arith;
        counted = omega arith;
        nothing_yet = λ z. absurd (omega arith);
        head_ends = λ _. subst (λ z. next b z ≡ literals_from) first (omega (arith, first, f.eight));
        ends_here = λ _. omega (arith, first, f.eight);
        literals_first = λ _. refl;
        facts_first = λ _. refl;
        literals_stand = λ j l. absurd (omega arith);
        constraints_stand = λ j l. absurd (omega arith);
        extended_stand = λ j l. absurd (omega arith);
      }

  after_literal : rank ≡ literal_rank → StandsTo b (and_literal s) (next b at)
  unfolding skip
  after_literal k =
      let other : (rank ≡ head_rank → ⊥) = λ z. omega arith in
      let g = behind other in
      let (here, none, none-extended) = literal_here k in
      let f =
      literal_formed b s.n (texts b s.literals literals_from) (at + 6) (size b at) (rw (ne_eqb _ _ other, eq-eqb _ _ k) at no_fault.body_formed) in
      let there : next b at ≡ skip b (s.literals + 1) literals_from =
      ap (next b) here ∙ sym (skip_snoc b s.literals literals_from) ∙ ap (λ m. skip b m literals_from) (sym (add-one s.literals)) in
      let literal : LiteralAt b s.n at = record {
        literal = k;
        whole = no_fault.all_there;
        some_character = f.some_character;
        short = f.short;
        characters_whole = f.characters_whole;
        characters_over = f.characters_over;
      } in
      record {
        within = no_fault.all_there;
        some_character = λ _. w.stands.some_character g.head_read;
        few_characters = w.stands.few_characters;
        few_strings = w.stands.few_strings;
        few_integers = w.stands.few_integers;
        few_literals = omega (arith, g.few_literals k, length_texts b s.literals literals_from);
        counted = omega (arith, w.stands.counted);
        nothing_yet = λ z. absurd (omega arith);
        head_ends = λ _. w.stands.head_ends g.head_read;
        ends_here = λ _. rw (none, none-extended) there;
        literals_first = λ _. none;
        facts_first = λ _. none-extended;
        literals_stand =
            below_more (λ j. LiteralAt b s.n (skip b j literals_from)) s.literals w.stands.literals_stand (subst (LiteralAt b s.n) here literal);
        constraints_stand = λ j l. absurd (omega (arith, none, l));
        extended_stand = λ j l. absurd (omega (arith, none-extended, l));
      }

  after_constraint : (rank ≡ head_rank → ⊥) → (rank ≡ literal_rank → ⊥) → (rank ≡ extended_rank → ⊥) → StandsTo b (and_constraint s rank) (next b at)
  unfolding skip
  after_constraint x y z =
      let g = behind x in
      let from : ℕ = skip b s.literals literals_from in
      let (here, none) = constraint_here x z in
      let there : next b at ≡ skip b (s.constraints + 1) from =
      ap (next b) here ∙ sym (skip_snoc b s.constraints from) ∙ ap (λ m. skip b m from) (sym (add-one s.constraints)) in
      let constraint : FactAt b s.p s.q s.literals at = record {
        whole = no_fault.all_there;
        formed = rw (ne_eqb _ _ x, ne_eqb _ _ y, ne_eqb _ _ z, length_texts) at no_fault.body_formed;
      } in
      record {
        within = no_fault.all_there;
        some_character = λ _. w.stands.some_character g.head_read;
        few_characters = w.stands.few_characters;
        few_strings = w.stands.few_strings;
        few_integers = w.stands.few_integers;
        few_literals = w.stands.few_literals;
        counted = omega (arith, w.stands.counted);
        nothing_yet = λ z. absurd (omega arith);
        head_ends = λ _. w.stands.head_ends g.head_read;
        ends_here = λ _. rw none there;
        literals_first = λ l. absurd (omega (arith, g.at_least, y));
        facts_first = λ _. none;
        literals_stand = w.stands.literals_stand;
        constraints_stand =
            below_more (λ j. FactAt b s.p s.q s.literals (skip b j from)) s.constraints w.stands.constraints_stand
            (subst (FactAt b s.p s.q s.literals) here constraint);
        extended_stand = λ j l. absurd (omega (arith, none, l));
      }

  after_extended : rank ≡ extended_rank → StandsTo b (and_extended s) (next b at)
  after_extended k =
      let no-head : (rank ≡ head_rank → ⊥) = λ z. omega arith in
      let no_literal : (rank ≡ literal_rank → ⊥) = λ z. omega arith in
      let g = behind no-head in
      let from : ℕ = skip b s.constraints (skip b s.literals literals_from) in
      let here = extended_here k in
      let there : next b at ≡ skip b (s.extended + 1) from =
      ap (next b) here ∙ sym (skip_snoc b s.extended from) ∙ ap (λ m. skip b m from) (sym (add-one s.extended)) in
      let constraint : ExtendedAt b s.p s.q at = record {
        whole = no_fault.all_there;
        of_kind = extended_kind_law (kind b at) k;
        formed = rw (ne_eqb _ _ no-head, ne_eqb _ _ no_literal, eq-eqb _ _ k) at no_fault.body_formed;
      } in
      record {
        within = no_fault.all_there;
        some_character = λ _. w.stands.some_character g.head_read;
        few_characters = w.stands.few_characters;
        few_strings = w.stands.few_strings;
        few_integers = w.stands.few_integers;
        few_literals = w.stands.few_literals;
        counted = omega (arith, w.stands.counted);
        nothing_yet = λ z. absurd (omega arith);
        head_ends = λ _. w.stands.head_ends g.head_read;
        ends_here = λ _. there;
        literals_first = λ l. absurd (omega arith);
        facts_first = λ l. absurd (omega arith);
        literals_stand = w.stands.literals_stand;
        constraints_stand = w.stands.constraints_stand;
        extended_stand =
            below_more (λ j. ExtendedAt b s.p s.q (skip b j from)) s.extended w.stands.extended_stand
            (subst (ExtendedAt b s.p s.q) here constraint);
      }

  pub after_stands : StandsTo b (after b s at) (next b at)
  after_stands = go (ℕ_discrete rank head_rank) (ℕ_discrete rank literal_rank) (ℕ_discrete rank extended_rank)
    where
      go : Dec (rank ≡ head_rank) → Dec (rank ≡ literal_rank) → Dec (rank ≡ extended_rank) → StandsTo b (after b s at) (next b at)
      go (yes k) d e = rw (eq-eqb _ _ k) (after_head k)
      go (no x) (yes k) e = rw (ne_eqb _ _ x, eq-eqb _ _ k) (after_literal k)
      go (no x) (no y) (yes k) = rw (ne_eqb _ _ x, ne_eqb _ _ y, eq-eqb _ _ k) (after_extended k)
      go (no x) (no y) (no z) = rw (ne_eqb _ _ x, ne_eqb _ _ y, ne_eqb _ _ z) (after_constraint x y z)

  -- and so do the numbers that are known to be those after the record
  pub advanced_stands : (t : Numbers) → read_to b t ≡ question_advanced b (read_to b s) at → StandsTo b t (next b at)
  advanced_stands t g = subst (λ (u : Numbers). StandsTo b u (next b at)) (same_numbers b (after b s at) t (after_advanced ∙ sym g)) after_stands

-- ---- all records

-- nothing was read yet
abbrev pub begun : Numbers
begun = record { last = 0; n = 0; p = 0; q = 0; literals = 0; constraints = 0; extended = 0 }

pub begun_fresh : (b : List ℕ) → read_to b begun ≡ unread
unfolding texts facts_at extendeds_at
begun_fresh b = refl

pub begun_stands : (b : List ℕ) → StandsTo b begun 0
begun_stands b = record {
  within = omega arith;
  some_character = λ z. absurd (omega arith);
  few_characters = omega arith;
  few_strings = omega arith;
  few_integers = omega arith;
  few_literals = omega arith;
  counted = omega arith;
  nothing_yet = λ _. refl;
  head_ends = λ z. absurd (omega arith);
  ends_here = λ z. absurd (omega arith);
  literals_first = λ _. refl;
  facts_first = λ _. refl;
  literals_stand = λ j l. absurd (omega arith);
  constraints_stand = λ j l. absurd (omega arith);
  extended_stand = λ j l. absurd (omega arith);
}

-- a record without fault in a manner is the next one
abbrev pub next_at : (m : Manner) {b : List ℕ} {s : Numbers} {at : ℕ}
    → StandsTo b s at
    → question_fault m b (read_to b s) at ≡ 0
    → NextAt b s at
next_at m {b} {s} {at} h e = record { greatest = m.greatest; stands = h; formed = (uncrowded m b (read_to b s) at e).0 }

module _ (m : Manner) where
  abbrev test : List ℕ → Progress → ℕ → ℕ
  test = question_fault m

  -- where reading ended
  abbrev pub Ends : List ℕ → Numbers → ℕ → Type 0
  Ends b t to = StandsTo b t to × (to + 6 ≤ length b)

  -- what was read are numbers that stand
  abbrev pub Stood : List ℕ → Progress → ℕ → Type 0
  Stood b p to = (t : Numbers) × (p ≡ read_to b t) × Ends b t to

  read_stands : (d : ℕ) (b : List ℕ) (s : Numbers) (p : Progress) (r at to q : ℕ) → length b ≤ at + d → StandsTo b s at
      → read_on test b (read_to b s) r at ≡ Ended p to q → Stood b p to
  read_stands zero b s p r at to q l h e = let g = read_none test b (read_to b s) r at (omega arith) in clash cc
  read_stands (suc d) b s p r at to q l h e =
      go (leb (at + 6) (length b)) (ending (kind b at)) (test b (read_to b s) at) refl refl refl
      (λ k. read_stands d b (after b s at) p (suc r) (next b at) to q (omega arith) (after_stands b s at (next_at m h k)))
    where
      go : (x y : Bool) (f : ℕ) → leb (at + 6) (length b) ≡ x → ending (kind b at) ≡ y → test b (read_to b s) at ≡ f
          → (test b (read_to b s) at ≡ 0
          → read_on test b (read_to b (after b s at)) (suc r) (next b at) ≡ Ended p to q
          → Stood b p to)
          → Stood b p to
      go false y f ex ey ef later = let g = read_none test b (read_to b s) r at (leb-false _ _ ex) in clash cc
      go true true f ex ey ef later =
          let g = read_ended test b (read_to b s) r at (leb-true _ _ ex) ey in
          let here : at ≡ to = cc in
          let known : p ≡ read_to b s = cc in
          (s, known, (subst (StandsTo b s) here h, subst (λ z. z + 6 ≤ length b) here (leb-true _ _ ex)))
      go true false (suc f) ex ey ef later = let g = read_stopped test b (read_to b s) r at f (leb-true _ _ ex) ey ef in clash cc
      go true false zero ex ey ef later =
          later ef (ap (λ (u : Progress). read_on test b u (suc r) (next b at)) (after_advanced b s at (next_at m h ef))
          ∙ sym (read_more test b (read_to b s) r at (leb-true _ _ ex) ey ef)
          ∙ e)

  -- a question is read from a ticket that is not too long
  pub question_short : (b : List ℕ) (t : Progress) (to q : ℕ) → read_in m b ≡ Ended t to q → length b ≤ ticket_bytes
  question_short b t to q e = go (leb (length b) ticket_bytes) refl
    where
      go : (x : Bool) → leb (length b) ticket_bytes ≡ x → length b ≤ ticket_bytes
      go false ex = let g = read_long test b (leb-false _ _ ex) in clash cc
      go true ex = leb-true _ _ ex

  -- it stands in the bytes, up to the six leading bytes where reading ended
  pub question_stood : (b : List ℕ) (p : Progress) (to q : ℕ) → read_in m b ≡ Ended p to q → Stood b p to
  question_stood b p to q e =
      read_stands (length b) b begun p 0 0 to q (omega arith) (begun_stands b)
      (ap (λ (u : Progress). read_on test b u 0 0) (begun_fresh b) ∙ sym (read_begin test b (question_short b p to q e)) ∙ e)

  pub question_stands : (b : List ℕ) (t : Numbers) (to q : ℕ) → read_in m b ≡ Ended (read_to b t) to q → Ends b t to
  question_stands b t to q e =
      let (s, known, ends) = question_stood b (read_to b t) to q e in
      subst (λ (u : Numbers). Ends b u to) (sym (same_numbers b t s known)) ends

  -- where 10 is looked for, all its constraints find room on a branch
  pub question_few : m.limited ≡ true → (b : List ℕ) (t : Numbers) (to q : ℕ) → read_in m b ≡ Ended (read_to b t) to q → t.constraints + t.extended ≤ fact_limit
  question_few l b t to q e =
      let from : ℕ = skip b t.literals literals_from in
      omega (arith, read_few m l b e, length_facts b t.constraints from, length_extended b t.extended (skip b t.constraints from))
