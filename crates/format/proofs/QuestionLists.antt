-- The literals, the constraints and the extended constraints of a question in range are read one after another.
use Prim.Native.Nat.{ℕ, suc, ◌+◌, ◌<◌, ◌≤◌}
use native.Mathlib.Omega.{arith}
use native.Mathlib.Decide.{dec_lt}
use mathlib.Core.Path.{◌≡◌, refl, sym, ◌∙◌, ap, ap₂, subst}
use mathlib.Core.Bool.{Bool, true, false, not, ◌||◌}
use mathlib.Core.List.{List, [], ◌∷◌, ◌++◌, append_assoc, append-nil, flat_map}
use lib.ListN.{length, drop, length-append}
use lib.Seq.{append_snoc}
use lib.Dec.{ltb}
use borrow.Author.Tests.{lt-ltb, le-ltb}
use Rattle.lists.specs.Lists.{All, Distinct}
use Rattle.lists.proofs.Lists.{in_middle}
use Rattle.calculus.specs.Limits.{alphabet_limit, literal_limit, fact_limit}
use Rattle.calculus.specs.Facts.{Question, Fact, same, not_same, is_literal, arithmetic}
use Rattle.calculus.specs.Extended.{Extended, Names}
use Rattle.format.specs.Records.{kind}
use Rattle.format.specs.Question.{head_rank, literal_rank, string_rank, arithmetic_rank, extended_rank, rank_of, Progress}
use Rattle.format.specs.Question.{is_constraint, Manner, room_for, finds_room, question_fault}
use Rattle.format.specs.Question.{read_on}
use Rattle.format.specs.Written.{literal_record, constraint_record, extended_record, LiteralInRange, ConstraintInRange, IsArithmetic, InOrderOfKind}
use Rattle.format.proofs.RecordFaults.{→uncrowded}
use Rattle.format.proofs.Turns.{read_more}
use Rattle.format.proofs.BytesRead.{behind}
use Rattle.format.proofs.Bodies.{Counts}
use Rattle.format.proofs.QuestionRecords.{asking, reached, Formed, literal_formed, fact_rank, known, constraint_formed, extended_formed}

-- ---- records one after another

-- reading comes from s at record r to t at the record n further, after the bytes, with a last rank that has a property
pub record Arrives (m : Manner) (b : List ℕ) (s : Progress) (r at : ℕ) (P : ℕ → Type 0) (t : ℕ → Progress) (n : ℕ) (bytes : List ℕ) : Type 0 where
  pub last : ℕ
  pub holds : P last
  pub reads : read_on (question_fault m) b s r at ≡ read_on (question_fault m) b (t last) (r + n) (at + length bytes)

-- each is read where what C says of the last rank, of what was read and of what is to come holds
module _ {A : Type 0} (m : Manner) (b : List ℕ) (write : A → List ℕ) (S : List A → ℕ → Progress) (C : ℕ → List A → List A → Type 0)
    (one : (last : ℕ) (done : List A) (x : A) (xs : List A) (at : ℕ) (rest : List ℕ) → C last done (x ∷ xs) → drop at b ≡ write x ++ rest
    → (l : ℕ) × Formed m.greatest b (S done last) at (write x) (S (done ++ (x ∷ [])) l) × (finds_room m (S done last) (kind b at) ≡ true)
    × C l (done ++ (x ∷ [])) xs) where
  listed : (done : List A) (last r at : ℕ) (xs : List A) (rest : List ℕ) → C last done xs → drop at b ≡ flat_map write xs ++ rest
      → Arrives m b (S done last) r at (λ l. C l (done ++ xs) []) (S (done ++ xs)) (length xs) (flat_map write xs)
  unfolding flat_map
  listed done last r at [] rest c e = record {
    last = last;
    holds = subst (λ xs. C last xs []) (sym (append-nil done)) c;
    reads =
        ap₂ (λ r at. read_on (question_fault m) b (S done last) r at) (let z : r ≡ r + 0 = omega arith in z) (let z : at ≡ at + 0 = omega arith in z)
        ∙ ap (λ xs. read_on (question_fault m) b (S xs last) (r + 0) (at + 0)) (sym (append-nil done));
  }
  listed done last r at (x ∷ xs) rest c e =
      let from : drop at b ≡ write x ++ (flat_map write xs ++ rest) = e ∙ append_assoc (write x) (flat_map write xs) rest in
      let (l, f, room, c') = one last done x xs at (flat_map write xs ++ rest) c from in
      let more = listed (done ++ (x ∷ [])) l (suc r) (at + length (write x)) xs rest c' (behind b at (length (write x)) (write x) (flat_map write xs ++ rest) refl from) in
      let all : (done ++ (x ∷ [])) ++ xs ≡ done ++ (x ∷ xs) = append_snoc done x xs in
      record {
        last = more.last;
        holds = subst (λ ys. C more.last ys []) all more.holds;
        reads =
            read_more (question_fault m) b (S done last) r at f.six_there f.not_ending (→uncrowded m b (S done last) at f.fine room)
            ∙ ap₂ (λ s at. read_on (question_fault m) b s (suc r) at) f.advanced f.goes
            ∙ more.reads
            ∙ ap (λ ys. read_on (question_fault m) b (S ys more.last) (suc r + length xs) (at + length (write x) + length (flat_map write xs))) all
            ∙ ap₂ (λ r at. read_on (question_fault m) b (S (done ++ (x ∷ xs)) more.last) r at)
            (let z : suc r + length xs ≡ r + suc (length xs) = omega arith in z)
            (omega (arith, length-append (write x) (flat_map write xs)));
      }

-- ---- room

-- a record that is a constraint finds room after fewer than 128, where 10 is looked for
pub room_by : (limited : Bool) (r count : ℕ) → (limited ≡ true → literal_rank < r → count < fact_limit) → room_for limited r count ≡ true
room_by false r count h = refl
room_by true r count h = go (dec_lt literal_rank r)
  where
    go : Dec (literal_rank < r) → room_for true r count ≡ true
    go (yes l) = ap (λ x. not (is_constraint r) || x) (lt-ltb count fact_limit (h refl l)) ∙ or_true (not (is_constraint r))
      where
        or_true : (x : Bool) → (x || true) ≡ true
        or_true true = refl
        or_true false = refl
    go (no l) = ap (λ x. not x || ltb count fact_limit) (le-ltb literal_rank r (omega arith))

-- ---- the order of constraints, by their ranks

abbrev pub Rising : ℕ → List Fact → Type 0
Rising last [] = Unit {0}
Rising last (f ∷ fs) = (last ≤ fact_rank f) × Rising (fact_rank f) fs

rising_arithmetic : (last : ℕ) (fs : List Fact) → last ≤ arithmetic_rank → All IsArithmetic fs → Rising last fs
rising_arithmetic last [] l h = tt
rising_arithmetic last (same x y ∷ fs) l h = absurd h.0
rising_arithmetic last (not_same x y ∷ fs) l h = absurd h.0
rising_arithmetic last (is_literal x k ∷ fs) l h = absurd h.0
rising_arithmetic last (arithmetic r e ∷ fs) l h = (l, rising_arithmetic arithmetic_rank fs (omega arith) h.1)

pub in_order_rising : (last : ℕ) (fs : List Fact) → last ≤ string_rank → InOrderOfKind fs → Rising last fs
unfolding InOrderOfKind
in_order_rising last [] l h = tt
in_order_rising last (same x y ∷ fs) l h = (l, in_order_rising string_rank fs (omega arith) h.1)
in_order_rising last (not_same x y ∷ fs) l h = (l, in_order_rising string_rank fs (omega arith) h.1)
in_order_rising last (is_literal x k ∷ fs) l h = (l, in_order_rising string_rank fs (omega arith) h.1)
in_order_rising last (arithmetic r e ∷ fs) l h = (omega arith, rising_arithmetic arithmetic_rank fs (omega arith) (h.0 tt))

pub rising_lower : (low high : ℕ) (fs : List Fact) → low ≤ high → Rising high fs → Rising low fs
rising_lower low high [] l h = tt
rising_lower low high (f ∷ fs) l h = (omega (arith, h.0), h.1)

-- ---- the literals, the constraints and the extended constraints

-- what is asked of a constraint does not depend on the others
pub range_any : (n p q : ℕ) (ls : List (List ℕ)) (cs ds : List Fact) (f : Fact) → ConstraintInRange (asking n p q ls cs) f → ConstraintInRange (asking n p q ls ds) f
unfolding ConstraintInRange
range_any n p q ls cs ds (same x y) h = h
range_any n p q ls cs ds (not_same x y) h = h
range_any n p q ls cs ds (is_literal x l) h = h
range_any n p q ls cs ds (arithmetic r e) h = record { size = h.size; numbers = h.numbers; columns = h.columns }

-- after the last rank and what is done, the literals left may be read; so may the constraints, more of which may follow; so may the extended constraints
pub record LiteralsLeft (n last : ℕ) (done ls : List (List ℕ)) : Type 0 where
  pub has_head : head_rank ≤ last
  pub at_most : last ≤ literal_rank
  pub is_in_range : All (LiteralInRange n) ls
  pub different : Distinct (done ++ ls)
  pub few : length (done ++ ls) ≤ literal_limit

pub record ConstraintsLeft (m : Manner) (u : Question) (more : List Fact) (last : ℕ) (done cs : List Fact) : Type 0 where
  pub has_head : head_rank ≤ last
  pub at_most : last ≤ arithmetic_rank
  pub rises : Rising last (cs ++ more)
  pub is_in_range : All (ConstraintInRange u) cs
  pub room : m.limited ≡ true → length done + length cs ≤ fact_limit

pub record ExtendedLeft (m : Manner) (u : Question) (last : ℕ) (done es : List Extended) : Type 0 where
  pub has_head : head_rank ≤ last
  pub at_most : last ≤ extended_rank
  pub named : All (Names u) es
  pub taken : 1 ≤ length es → extended_rank ≤ m.greatest
  pub room : m.limited ≡ true → length u.constraints + length done + length es ≤ fact_limit

module _ (m : Manner) (b : List ℕ) (n p q : ℕ) (kn : n ≤ alphabet_limit) (g : arithmetic_rank ≤ m.greatest) where
  pub literals_read : (last r at : ℕ) (ls : List (List ℕ)) (rest : List ℕ) → LiteralsLeft n last [] ls → drop at b ≡ flat_map literal_record ls ++ rest
      → Arrives m b (reached last (asking n p q [] []) []) r at (λ l. LiteralsLeft n l ls []) (λ l. reached l (asking n p q ls []) []) (length ls)
      (flat_map literal_record ls)
  literals_read last r at ls rest c e = listed m b literal_record (λ ls l. reached l (asking n p q ls []) []) (LiteralsLeft n) one [] last r at ls rest c e
    where
      one : (last : ℕ) (done : List (List ℕ)) (s : List ℕ) (ls : List (List ℕ)) (at : ℕ) (rest : List ℕ) → LiteralsLeft n last done (s ∷ ls)
          → drop at b ≡ literal_record s ++ rest
          → (l : ℕ)
          × Formed m.greatest b (reached last (asking n p q done []) []) at (literal_record s) (reached l (asking n p q (done ++ (s ∷ [])) []) [])
          × (finds_room m (reached last (asking n p q done []) []) (kind b at) ≡ true)
          × LiteralsLeft n l (done ++ (s ∷ [])) ls
      one last done s ls at rest c e =
          let f =
          literal_formed m.greatest b n p q done last at s rest kn (omega arith) c.has_head c.at_most c.is_in_range.0
          (in_middle done s ls c.different) (omega (arith, c.few, length-append done (s ∷ ls))) e in (
            literal_rank,
            f,
            room_by m.limited (rank_of (kind b at)) 0 (λ _ l. omega (arith, f.rank)),
            record {
              has_head = omega arith;
              at_most = omega arith;
              is_in_range = c.is_in_range.1;
              different = subst Distinct (sym (append_snoc done s ls)) c.different;
              few = subst (λ ls. length ls ≤ literal_limit) (sym (append_snoc done s ls)) c.few;
            },
          )

module _ (m : Manner) (b : List ℕ) (n p q : ℕ) (ls : List (List ℕ)) (counts : Counts (asking n p q ls [])) (g : arithmetic_rank ≤ m.greatest)
    (more : List Fact) where
  pub constraints_read : (last r at : ℕ) (cs : List Fact) (rest : List ℕ) → ConstraintsLeft m (asking n p q ls []) more last [] cs
      → drop at b ≡ flat_map constraint_record cs ++ rest
      → Arrives m b (reached last (asking n p q ls []) []) r at (λ l. ConstraintsLeft m (asking n p q ls []) more l cs [])
      (λ l. reached l (asking n p q ls cs) []) (length cs) (flat_map constraint_record cs)
  constraints_read last r at cs rest c e =
      listed m b constraint_record (λ cs l. reached l (asking n p q ls cs) []) (ConstraintsLeft m (asking n p q ls []) more) one [] last r at cs rest c e
    where
      one : (last : ℕ) (done : List Fact) (f : Fact) (cs : List Fact) (at : ℕ) (rest : List ℕ) → ConstraintsLeft m (asking n p q ls []) more last done (f ∷ cs)
          → drop at b ≡ constraint_record f ++ rest
          → (l : ℕ)
          × Formed m.greatest b (reached last (asking n p q ls done) []) at (constraint_record f) (reached l (asking n p q ls (done ++ (f ∷ []))) [])
          × (finds_room m (reached last (asking n p q ls done) []) (kind b at) ≡ true)
          × ConstraintsLeft m (asking n p q ls []) more l (done ++ (f ∷ [])) cs
      one last done f cs at rest c e =
          let counted : Counts (asking n p q ls done) = record { strings = counts.strings; integers = counts.integers; literals = counts.literals } in
          let k =
          constraint_formed m.greatest b (asking n p q ls done) last at f rest counted g c.has_head c.rises.0
          (range_any n p q ls [] done f c.is_in_range.0) e in (
            fact_rank f,
            k,
            room_by m.limited (rank_of (kind b at)) (length done + 0) (λ e _. omega (arith, c.room e)),
            record {
              has_head = omega (arith, (known b f).constraint);
              at_most = (known b f).at_most;
              rises = c.rises.1;
              is_in_range = c.is_in_range.1;
              room = λ e. omega (arith, c.room e, length-append done (f ∷ []));
            },
          )

module _ (m : Manner) (b : List ℕ) (u : Question) (counts : Counts u) where
  pub extended_constraints_read : (last r at : ℕ) (es : List Extended) (rest : List ℕ) → ExtendedLeft m u last [] es → drop at b ≡ flat_map extended_record es ++ rest
      → Arrives m b (reached last u []) r at (λ l. ExtendedLeft m u l es []) (λ l. reached l u es) (length es) (flat_map extended_record es)
  extended_constraints_read last r at es rest c e = listed m b extended_record (λ es l. reached l u es) (ExtendedLeft m u) one [] last r at es rest c e
    where
      one : (last : ℕ) (done : List Extended) (e : Extended) (es : List Extended) (at : ℕ) (rest : List ℕ) → ExtendedLeft m u last done (e ∷ es)
          → drop at b ≡ extended_record e ++ rest
          → (l : ℕ)
          × Formed m.greatest b (reached last u done) at (extended_record e) (reached l u (done ++ (e ∷ [])))
          × (finds_room m (reached last u done) (kind b at) ≡ true)
          × ExtendedLeft m u l (done ++ (e ∷ [])) es
      one last done e es at rest c stands =
          let wide : extended_rank ≤ m.greatest = c.taken (omega arith) in
          let f = extended_formed m.greatest b u done last at e rest counts wide c.has_head c.at_most c.named.0 stands in (
            extended_rank,
            f,
            room_by m.limited (rank_of (kind b at)) (length u.constraints + length done) (λ e _. omega (arith, c.room e)),
            record {
              has_head = omega arith;
              at_most = omega arith;
              named = c.named.1;
              taken = λ _. wide;
              room = λ x. omega (arith, c.room x, length-append done (e ∷ []));
            },
          )
