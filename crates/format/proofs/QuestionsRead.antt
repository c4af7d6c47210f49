-- Every question in range is read as what it says, in each manner of reading, up to the claim or the end that follows; a constraint more than 128 gives 10.
use Prim.Native.Nat.{ℕ, ◌+◌, ◌<◌, ◌≤◌}
use native.Mathlib.Omega.{arith}
use native.Mathlib.Nat.{zero-add}
use mathlib.Core.Path.{◌≡◌, refl, sym, ◌∙◌, ap, ap₂, subst}
use mathlib.Core.Logic.{◌⊎◌, inl, inr}
use mathlib.Core.Bool.{Bool, true, false, not, ◌||◌, true≢false}
use mathlib.Core.List.{List, [], ◌∷◌, ◌++◌, append-nil, flat_map}
use lib.ListN.{length, drop}
use lib.Seq.{drop_at}
use lib.Dec.{ltb}
use borrow.Author.Tests.{lt-ltb, le-ltb}
use Rattle.lists.specs.Lists.{All, Distinct}
use Rattle.lists.proofs.Lists.{all_map, all_left, all_right}
use Rattle.calculus.specs.Limits.{ticket_bytes, alphabet_limit, fact_limit}
use Rattle.calculus.specs.Facts.{Question, Fact}
use Rattle.calculus.specs.Extended.{Extended, Names}
use Rattle.format.specs.Records.{kind}
use Rattle.format.specs.Question.{head_rank, literal_rank, string_rank, arithmetic_rank, extended_rank, rank_of, Progress, unread}
use Rattle.format.specs.Question.{is_constraint, Manner, room_for, question_fault}
use Rattle.format.specs.Question.{with_fact, Ended, Stopped, or_crowded, ending, read_on, read_in, form_manner}
use Rattle.format.specs.Written.{constraint_record, LiteralInRange, ConstraintInRange, question_bytes, QuestionInRange}
use Rattle.format.specs.Fields.{bytes_of}
use Rattle.format.specs.Demands.{PutsQuestion}
use Rattle.format.proofs.RecordFaults.{→uncrowded}
use Rattle.format.proofs.Turns.{read_begin, read_more, read_ended, read_stopped}
use Rattle.format.proofs.BytesRead.{behind, leading_read}
use Rattle.format.proofs.Bodies.{Counts}
use Rattle.format.proofs.QuestionBytes.{head_part, literal_part, constraint_part, extended_part, plain_parts, length_plain, parts, length_question}
use Rattle.format.proofs.QuestionRecords.{asking, reached, Formed, head_formed, known, constraint_formed}
use Rattle.format.proofs.QuestionLists.{Arrives, Rising, in_order_rising, rising_lower, range_any, room_by}
use Rattle.format.proofs.QuestionLists.{LiteralsLeft, ConstraintsLeft, ExtendedLeft, literals_read, constraints_read, extended_constraints_read}

-- ---- the whole question

-- what reading in a manner asks of a question besides its ranges: kind 11 is taken where there is one, and all constraints find room where 10 is looked for
pub record ReadIn (m : Manner) (u : Question) (es : List Extended) : Type 0 where
  pub arithmetic_taken : arithmetic_rank ≤ m.greatest
  pub extended_taken : 1 ≤ length es → extended_rank ≤ m.greatest
  pub room : m.limited ≡ true → length u.constraints + length es ≤ fact_limit

-- a question without extended constraints; one with them where kind 11 is taken
pub plain_in : (m : Manner) (u : Question) → arithmetic_rank ≤ m.greatest → (m.limited ≡ true → length u.constraints ≤ fact_limit) → ReadIn m u []
plain_in m u g room = record { arithmetic_taken = g; extended_taken = λ z. absurd (omega arith); room = λ e. omega (arith, room e) }

pub extended_in : (m : Manner) (u : Question) (es : List Extended) → extended_rank ≤ m.greatest
    → (m.limited ≡ true → length u.constraints + length es ≤ fact_limit)
    → ReadIn m u es
extended_in m u es g room = record { arithmetic_taken = omega arith; extended_taken = λ _. g; room = room }

-- where 10 is not looked for
pub form_in : (u : Question) → ReadIn form_manner u []
form_in u = plain_in form_manner u (omega arith) (λ e. absurd (true≢false (sym e)))

-- the number of the record after the question
abbrev pub behind_question : Question → List Extended → ℕ
behind_question u es = 1 + length u.literals + length u.constraints + length es

-- reading stands after the question, where further constraints may follow in order of kind
pub record ReadsTo (m : Manner) (b : List ℕ) (u : Question) (es : List Extended) (P : ℕ → Type 0) : Type 0 where
  pub last : ℕ
  pub has_head : head_rank ≤ last
  pub at_most : last ≤ extended_rank
  pub holds : P last
  pub reads : read_in m b ≡ read_on (question_fault m) b (reached last u es) (behind_question u es) (length (question_bytes u es))

-- the ranges without the order of constraints, which may be those of a part of a question
pub record Ranges (u : Question) : Type 0 where
  pub some_character : 1 ≤ u.n
  pub few_characters : u.n ≤ alphabet_limit
  pub counts : Counts u
  pub literals : All (LiteralInRange u.n) u.literals
  pub different_literals : Distinct u.literals
  pub constraints : All (ConstraintInRange u) u.constraints

pub ranges : (u : Question) → QuestionInRange u → Ranges u
ranges u r = record {
  some_character = r.some_character;
  few_characters = r.few_characters;
  counts = record { strings = r.few_strings; integers = r.few_integers; literals = r.few_literals };
  literals = r.literals;
  different_literals = r.different_literals;
  constraints = r.constraints;
}

module _ (m : Manner) (b : List ℕ) (u : Question) where
  abbrev heads : List ℕ
  heads = head_part u

  abbrev lits : List ℕ
  lits = literal_part u

  abbrev facts : List ℕ
  facts = constraint_part u

  -- reading comes to the first literal, from there to the first constraint, and from there after the constraints
  abbrev ToLiterals : Type 0
  ToLiterals = Formed m.greatest b unread 0 heads (reached head_rank (asking u.n u.p u.q [] []) [])

  abbrev ToConstraints : Type 0
  ToConstraints =
      Arrives m b (reached head_rank (asking u.n u.p u.q [] []) []) 1 (length heads) (λ l. LiteralsLeft u.n l u.literals [])
      (λ l. reached l (asking u.n u.p u.q u.literals []) []) (length u.literals) lits

  abbrev ToExtended : List Fact → ℕ → Type 0
  ToExtended more last =
      Arrives m b (reached last (asking u.n u.p u.q u.literals []) []) (1 + length u.literals) (length heads + length lits)
      (λ l. ConstraintsLeft m (asking u.n u.p u.q u.literals []) more l u.constraints []) (λ l. reached l u []) (length u.constraints) facts

  to_extended : (more : List Fact) → length b ≤ ticket_bytes → ToLiterals → (l : ToConstraints) → ToExtended more l.last → ReadsTo m b u [] (λ last. Rising last more)
  unfolding question_bytes flat_map
  to_extended more few k l c =
      record {
        last = c.last;
        has_head = c.holds.has_head;
        at_most = omega (arith, c.holds.at_most);
        holds = c.holds.rises;
        reads =
            read_begin (question_fault m) b few
            ∙ read_more (question_fault m) b unread 0 0 k.six_there k.not_ending
            (→uncrowded m b unread 0 k.fine (room_by m.limited (rank_of (kind b 0)) 0 (λ _ l. omega (arith, k.rank))))
            ∙ ap₂ (λ s at. read_on (question_fault m) b s 1 at) k.advanced (k.goes ∙ zero-add (length heads))
            ∙ l.reads ∙ c.reads
            ∙ ap₂ (λ r at. read_on (question_fault m) b (reached c.last u []) r at)
            (let z : 1 + length u.literals + length u.constraints ≡ behind_question u [] = omega arith in z)
            (sym (length_plain u));
      }

  pub constraints_read_to : (more : List Fact) (rest : List ℕ) → Ranges u → ReadIn m u [] → Rising string_rank (u.constraints ++ more) → length b ≤ ticket_bytes
      → b ≡ heads ++ (lits ++ (facts ++ rest)) → ReadsTo m b u [] (λ last. Rising last more)
  constraints_read_to more rest r i rises few e =
      to_extended more few
      (head_formed m.greatest b u.n u.p u.q (lits ++ (facts ++ rest)) r.some_character r.few_characters r.counts.strings
      r.counts.integers e) literals_there (constraints_there literals_there.last literals_there.holds)
    where
      from_literals : drop (length heads) b ≡ lits ++ (facts ++ rest)
      from_literals = ap (drop (length heads)) e ∙ drop_at heads (lits ++ (facts ++ rest)) (length heads) refl

      literals_there : ToConstraints
      literals_there =
          literals_read m b u.n u.p u.q r.few_characters i.arithmetic_taken head_rank 1 (length heads) u.literals (facts ++ rest) (record {
            has_head = omega arith;
            at_most = omega arith;
            is_in_range = r.literals;
            different = r.different_literals;
            few = r.counts.literals;
          }) from_literals

      constraints_there : (last : ℕ) → LiteralsLeft u.n last u.literals [] → ToExtended more last
      constraints_there last l =
          constraints_read m b u.n u.p u.q u.literals
          (record { strings = r.counts.strings; integers = r.counts.integers; literals = r.counts.literals }) i.arithmetic_taken more last
          (1 + length u.literals) (length heads + length lits) u.constraints rest (record {
            has_head = l.has_head;
            at_most = omega (arith, l.at_most);
            rises = rising_lower last string_rank (u.constraints ++ more) (omega (arith, l.at_most)) rises;
            is_in_range = all_map u.constraints (range_any u.n u.p u.q u.literals u.constraints []) r.constraints;
            room = λ x. omega (arith, i.room x);
          }) (behind b (length heads) (length lits) lits (facts ++ rest) refl from_literals)

  module _ (es : List Extended) where
    abbrev extras : List ℕ
    extras = extended_part es

    abbrev Behind : ℕ → Type 0
    Behind last =
        Arrives m b (reached last u []) (behind_question u []) (length (question_bytes u [])) (λ l. ExtendedLeft m u l es []) (λ l. reached l u es) (length es) extras

    to_end : (c : ReadsTo m b u [] (λ last. Rising last [])) → Behind c.last → ReadsTo m b u es (λ _. Unit {0})
    to_end c x = record {
      last = x.last;
      has_head = x.holds.has_head;
      at_most = x.holds.at_most;
      holds = tt;
      reads =
          c.reads ∙ x.reads
          ∙ ap₂ (λ r at. read_on (question_fault m) b (reached x.last u es) r at)
          (let z : behind_question u [] + length es ≡ behind_question u es = omega arith in z) (sym (length_question u es));
    }

    pub question_read_to : (rest : List ℕ) → QuestionInRange u → All (Names u) es → ReadIn m u es → length b ≤ ticket_bytes → b ≡ question_bytes u es ++ rest
        → ReadsTo m b u es (λ _. Unit {0})
    question_read_to rest r named i few e =
        let behind = extras ++ rest in
        let c = constraints_read_to [] behind all plain rises few (e ∙ parts u es rest ∙ plain_parts u behind) in
        to_end c (behind_constraints c.last c.has_head c.at_most)
      where
        all : Ranges u
        all = ranges u r

        plain : ReadIn m u []
        plain = plain_in m u i.arithmetic_taken (λ x. omega (arith, i.room x))

        rises : Rising string_rank (u.constraints ++ [])
        rises = subst (Rising string_rank) (sym (append-nil u.constraints)) (in_order_rising string_rank u.constraints (omega arith) r.in_order)

        from : drop (length (question_bytes u [])) b ≡ extras ++ rest
        from =
            ap (drop (length (question_bytes u []))) (e ∙ parts u es rest)
            ∙ drop_at (question_bytes u []) (extras ++ rest) (length (question_bytes u [])) refl

        behind_constraints : (last : ℕ) → head_rank ≤ last → last ≤ extended_rank → Behind last
        behind_constraints last h l =
            extended_constraints_read m b u all.counts last (behind_question u []) (length (question_bytes u [])) es rest (record {
              has_head = h;
              at_most = l;
              named = named;
              taken = i.extended_taken;
              room = λ x. omega (arith, i.room x);
            }) from

-- a question in range that a claim or an end follows is read, up to there
pub record QuestionRead (m : Manner) (b : List ℕ) (u : Question) (es : List Extended) : Type 0 where
  pub last : ℕ
  pub has_head : head_rank ≤ last
  pub ends : read_in m b ≡ Ended (reached last u es) (length (question_bytes u es)) (behind_question u es)

delimiter_ends : (k : ℕ) → (k ≡ 5) ⊎ (k ≡ 8) → (k < 65536) × (ending k ≡ true)
delimiter_ends k (inl e) = (omega arith, ap ending e)
delimiter_ends k (inr e) = (omega arith, ap ending e)

pub question_read : (m : Manner) (b : List ℕ) (u : Question) (es : List Extended) → PutsQuestion b u es → ReadIn m u es → QuestionRead m b u es
question_read m b u es h i =
    let to = question_read_to m b u es h.rest h.is_in_range h.named i h.few h.bytes in
    let at : ℕ = length (question_bytes u es) in
    let d = h.delimited in
    let (short, ends) = delimiter_ends d.of_kind d.claim_or_end in
    let stands : drop at b ≡ bytes_of 4 d.size ++ (bytes_of 2 d.of_kind ++ d.more) =
    ap (drop at) h.bytes ∙ drop_at (question_bytes u es) h.rest at refl ∙ d.leading in
    let lead = leading_read b at d.size d.of_kind d.more short stands in
    record {
      last = to.last;
      has_head = to.has_head;
      ends =
          to.reads
          ∙ read_ended (question_fault m) b (reached to.last u es) (behind_question u es) at lead.six_there (ap ending lead.is_kind ∙ ends);
    }

-- ---- 10: a constraint more than 128

part_ranges : (u : Question) (f : Fact) → QuestionInRange (with_fact u f) → Ranges u
part_ranges u f r = record {
  some_character = r.some_character;
  few_characters = r.few_characters;
  counts = record { strings = r.few_strings; integers = r.few_integers; literals = r.few_literals };
  literals = r.literals;
  different_literals = r.different_literals;
  constraints =
      all_map u.constraints (range_any u.n u.p u.q u.literals (u.constraints ++ (f ∷ [])) u.constraints)
      (all_left (ConstraintInRange (with_fact u f)) u.constraints (f ∷ []) r.constraints);
}

pub crowded_read : (m : Manner) (b : List ℕ) (u : Question) (f : Fact) (rest : List ℕ)
    → m.limited ≡ true
    → arithmetic_rank ≤ m.greatest
    → QuestionInRange (with_fact u f)
    → length u.constraints ≡ fact_limit
    → length b ≤ ticket_bytes
    → b ≡ question_bytes u [] ++ (constraint_record f ++ rest)
    → read_in m b ≡ Stopped 10 (behind_question u [])
unfolding question_fault
crowded_read m b u f rest limited g r full few e =
    let all = part_ranges u f r in
    let rises : Rising string_rank (u.constraints ++ (f ∷ [])) = in_order_rising string_rank (u.constraints ++ (f ∷ [])) (omega arith) r.in_order in
    let to = constraints_read_to m b u (f ∷ []) (constraint_record f ++ rest) all (plain_in m u g (λ _. omega arith)) rises few (e ∙ plain_parts u (constraint_record f ++ rest)) in
    let at : ℕ = length (question_bytes u []) in
    let stands : drop at b ≡ constraint_record f ++ rest =
    ap (drop at) e ∙ drop_at (question_bytes u []) (constraint_record f ++ rest) at refl in
    let range : ConstraintInRange u f =
    range_any u.n u.p u.q u.literals (u.constraints ++ (f ∷ [])) u.constraints f
    (all_right (ConstraintInRange (with_fact u f)) u.constraints (f ∷ []) r.constraints).0 in
    let s : Progress = reached to.last u [] in
    let k = constraint_formed m.greatest b u to.last at f rest all.counts g to.has_head to.holds.0 range stands in
    to.reads
    ∙ read_stopped (question_fault m) b s (behind_question u []) at 9 k.six_there k.not_ending
    (ap₂ or_crowded k.fine (no_room m.limited (rank_of (kind b at)) (length u.constraints + 0) limited (omega (arith, k.rank, (known b f).constraint)) (omega arith)))
  where
    no_room : (limited : Bool) (r count : ℕ) → limited ≡ true → literal_rank < r → fact_limit ≤ count → room_for limited r count ≡ false
    no_room limited r count e l h =
        ap (λ x. not x || (not (is_constraint r) || ltb count fact_limit)) e
        ∙ ap (λ x. not x || ltb count fact_limit) (lt-ltb literal_rank r l)
        ∙ le-ltb count fact_limit h
