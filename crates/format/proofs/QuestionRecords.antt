-- A record of a question in range has no fault of its form where it stands, and what is read after it.
use Prim.Native.Nat.{ℕ, ◌+◌, ◌<◌, ◌≤◌}
use native.Mathlib.Omega.{arith}
use mathlib.Core.Path.{◌≡◌, refl, sym, ◌∙◌, ap, ap₂, subst}
use mathlib.Core.Bool.{Bool, true, false, not, ◌&&◌, ◌||◌}
use mathlib.Core.List.{List, [], ◌∷◌, ◌++◌}
use lib.ListN.{length, drop}
use lib.Dec.{ltb, leb, eqb}
use borrow.Author.Tests.{eqb-true, lt-ltb, le-leb, ne_eqb}
use Rattle.lists.proofs.Lists.{In}
use Rattle.lists.proofs.Tests.{→and_both}
use Rattle.calculus.specs.Limits.{alphabet_limit, variable_limit, literal_limit}
use Rattle.calculus.specs.Facts.{Question, Fact, same, not_same, is_literal, arithmetic}
use Rattle.calculus.specs.Extended.{Extended, Names}
use Rattle.format.specs.Records.{size, kind, next, whole, need}
use Rattle.format.specs.Answer.{record_bytes, character_bytes}
use Rattle.format.specs.Question.{head_rank, literal_rank, string_rank, arithmetic_rank, extended_kind, extended_rank, rank_of, Progress, unread}
use Rattle.format.specs.Question.{rank_in_place, in_place, question_body_fault, form_fault}
use Rattle.format.specs.Question.{head_fault, text_of, body_fact, with_fact, string_kind, arithmetic_kind, question_after, extended_after, question_advanced, ending, by_rank}
use Rattle.format.specs.Written.{head_record, literal_record, constraint_record, extended_record, LiteralInRange, ConstraintInRange}
use Rattle.format.proofs.Faults.{passed}
use Rattle.format.proofs.Encoded.{length_record, length_characters}
use Rattle.format.proofs.BytesRead.{RecordAt, leading_read, record_leads, record_read}
use Rattle.format.proofs.Bodies.{head_body, length_head, head_read, head_fine, literal_read, literal_fine, Counts}
use Rattle.format.proofs.ConstraintBodies.{fault_of, fact_kind, fact_body, constraint_bytes, fact_read, extended_body, extended_bytes, extended_read}

-- ---- one record

-- what was read, by its parts
abbrev pub asking : ℕ → ℕ → ℕ → List (List ℕ) → List Fact → Question
asking n p q ls cs = record { n = n; p = p; q = q; literals = ls; constraints = cs }

abbrev pub reached : ℕ → Question → List Extended → Progress
reached last u es = record { last = last; question = u; extended = es }

-- the record at a position has no fault of its form, and what is read after it
pub record Formed (greatest : ℕ) (b : List ℕ) (s : Progress) (at : ℕ) (bytes : List ℕ) (t : Progress) : Type 0 where
  pub six_there : at + 6 ≤ length b
  pub not_ending : ending (kind b at) ≡ false
  pub fine : form_fault greatest b s at ≡ 0
  pub advanced : question_advanced b s at ≡ t
  pub goes : next b at ≡ at + length bytes
  pub rank : rank_of (kind b at) ≡ t.last

formed_by : (greatest : ℕ) (b : List ℕ) (s : Progress) (at k : ℕ) (body rest : List ℕ) (t : Progress) → RecordAt b at k body rest → ending k ≡ false
    → in_place greatest s k ≡ true → question_body_fault b s.question k (at + 6) (length body) ≡ 0
    → reached (rank_of k) (question_after b s.question k (at + 6) (length body)) (extended_after b s.extended k (at + 6)) ≡ t
    → Formed greatest b s at (record_bytes k body) t
unfolding form_fault question_advanced
formed_by greatest b s at k body rest t r e place body-fine is = record {
  six_there = omega (arith, r.ends);
  not_ending = ap ending r.is_kind ∙ e;
  fine =
      passed 3 (whole b at) (need 4 (in_place greatest s (kind b at)) (question_body_fault b s.question (kind b at) (at + 6) (size b at))) r.is_whole
      ∙ ap₂ (λ k m. need 4 (in_place greatest s k) (question_body_fault b s.question k (at + 6) m)) r.is_kind r.is_size
      ∙ passed 4 (in_place greatest s k) (question_body_fault b s.question k (at + 6) (length body)) place
      ∙ body-fine;
  advanced =
      ap₂ (λ k m. reached (rank_of k) (question_after b s.question k (at + 6) m) (extended_after b s.extended k (at + 6))) r.is_kind r.is_size ∙ is;
  goes = omega (arith, r.is_size, length_record k body);
  rank = ap rank_of r.is_kind ∙ ap (λ (t : Progress). t.last) is;
}

place_behind : (greatest last literals r : ℕ)
    → head_rank ≤ last → literal_rank ≤ r → last ≤ r → r ≤ greatest → (r ≡ literal_rank → literals < literal_limit)
    → rank_in_place greatest last literals r ≡ true
place_behind greatest last literals r h l o g few =
    let room : Bool = not (eqb r literal_rank) || ltb literals literal_limit in
    rw (ne_eqb r head_rank (λ z. omega arith))
    (→and_both (leb head_rank last) (leb literal_rank r && (leb last r && (leb r greatest && room))) (le-leb head_rank last h)
    (→and_both (leb literal_rank r) (leb last r && (leb r greatest && room)) (le-leb literal_rank r l)
    (→and_both (leb last r) (leb r greatest && room) (le-leb last r o)
    (→and_both (leb r greatest) room (le-leb r greatest g) (found (eqb r literal_rank) refl)))))
  where
    found : (x : Bool) → eqb r literal_rank ≡ x → (not x || ltb literals literal_limit) ≡ true
    found true e = lt-ltb literals literal_limit (few (eqb-true r literal_rank e))
    found false e = refl

-- ---- each sort of record

pub head_formed : (greatest : ℕ) (b : List ℕ) (n p q : ℕ) (rest : List ℕ)
    → 1 ≤ n → n ≤ alphabet_limit → p ≤ variable_limit → q ≤ variable_limit → b ≡ head_record n p q ++ rest
    → Formed greatest b unread 0 (head_record n p q) (reached head_rank (asking n p q [] []) [])
unfolding rank_of
head_formed greatest b n p q rest hn kn hp hq e =
    let r = record_read b 0 1 (head_body n p q) rest (omega arith) (omega (arith, length_head n p q)) e in
    let h = head_read b 6 n p q rest (omega arith) (omega arith) (omega arith) r.body_stands in
    formed_by greatest b unread 0 1 (head_body n p q) rest (reached head_rank (asking n p q [] []) []) r refl refl
    (ap (head_fault b 6) (length_head n p q) ∙ head_fine b 6 n p q hn kn hp hq h)
    (ap₂ (λ n (t : ℕ × ℕ). reached head_rank (asking n t.0 t.1 [] []) []) h.n_is (ap₂ (λ (p q : ℕ). (p, q)) h.p_is h.q_is))

-- a literal after a head and other literals
pub literal_formed : (greatest : ℕ) (b : List ℕ) (n p q : ℕ) (ls : List (List ℕ)) (last at : ℕ) (s rest : List ℕ)
    → n ≤ alphabet_limit → literal_rank ≤ greatest → head_rank ≤ last → last ≤ literal_rank
    → LiteralInRange n s → (In s ls → ⊥) → length ls < literal_limit → drop at b ≡ literal_record s ++ rest
    → Formed greatest b (reached last (asking n p q ls []) []) at (literal_record s) (reached literal_rank (asking n p q (ls ++ (s ∷ [])) []) [])
unfolding rank_of
literal_formed greatest b n p q ls last at s rest kn g h l range new few e =
    let body : List ℕ = character_bytes s in
    let short : length body < 4294967296 = omega (arith, length_characters s, range.few_characters) in
    let r = record_read b at 2 body rest (omega arith) short e in
    let text : text_of b (at + 6) (length body) ≡ s = literal_read b n (at + 6) s rest kn range r.body_stands in
    formed_by greatest b (reached last (asking n p q ls []) []) at 2 body rest (reached literal_rank (asking n p q (ls ++ (s ∷ [])) []) []) r refl
    (place_behind greatest last (length ls) 2 h (omega arith) l g (λ _. few))
    (literal_fine b n (at + 6) s ls (length body) refl range text new)
    (ap (λ s. reached literal_rank (asking n p q (ls ++ (s ∷ [])) []) []) text)

abbrev pub fact_rank : Fact → ℕ
fact_rank (same x y) = string_rank
fact_rank (not_same x y) = string_rank
fact_rank (is_literal x l) = string_rank
fact_rank (arithmetic r e) = arithmetic_rank

-- a kind of constraint: its rank, and what is made of a body
pub record Known (b : List ℕ) (k r : ℕ) : Type 0 where
  pub few : k < 65536
  pub not_ending : ending k ≡ false
  pub rank : rank_of k ≡ r
  pub constraint : literal_rank < r
  pub at_most : r ≤ arithmetic_rank
  pub body : (u : Question) (at m : ℕ) → question_body_fault b u k at m ≡ fault_of b u k at m
  pub after : (u : Question) (at m : ℕ) → question_after b u k at m ≡ with_fact u (body_fact b k at m)
  pub extended : (es : List Extended) (at : ℕ) → extended_after b es k at ≡ es

-- a rank between those of literals and of extended constraints
by_constraint : {A : Type 0} (r : ℕ) (head literal constraint extended : A) → literal_rank < r → r ≤ arithmetic_rank → by_rank r head literal constraint extended ≡ constraint
by_constraint r head literal constraint extended h g =
    rw (ne_eqb r head_rank (λ e. omega arith), ne_eqb r literal_rank (λ e. omega arith), ne_eqb r extended_rank (λ e. omega arith)) refl

known_by : (b : List ℕ) (k r : ℕ) → k < 65536 → ending k ≡ false → rank_of k ≡ r → literal_rank < r → r ≤ arithmetic_rank → Known b k r
known_by b k r few not_ending rank h g = record {
  few = few;
  not_ending = not_ending;
  rank = rank;
  constraint = h;
  at_most = g;
  body = λ u at m. rw (rank) (by_constraint r _ _ _ _ h g);
  after = λ u at m. rw (rank) (by_constraint r _ _ _ _ h g);
  extended = λ es at. rw (rank) (by_constraint r _ _ _ _ h g);
}

pub known_string : (b : List ℕ) → Known b string_kind string_rank
unfolding rank_of
known_string b = known_by b string_kind string_rank (omega arith) refl refl (omega arith) (omega arith)

pub known_arithmetic : (b : List ℕ) → Known b arithmetic_kind arithmetic_rank
unfolding rank_of
known_arithmetic b = known_by b arithmetic_kind arithmetic_rank (omega arith) refl refl (omega arith) (omega arith)

pub known : (b : List ℕ) (f : Fact) → Known b (fact_kind f) (fact_rank f)
known b (same x y) = known_string b
known b (not_same x y) = known_string b
known b (is_literal x l) = known_string b
known b (arithmetic r e) = known_arithmetic b

-- a constraint after a head, the literals and other constraints
pub constraint_formed : (greatest : ℕ) (b : List ℕ) (u : Question) (last at : ℕ) (f : Fact) (rest : List ℕ)
    → Counts u → arithmetic_rank ≤ greatest → head_rank ≤ last → last ≤ fact_rank f → ConstraintInRange u f → drop at b ≡ constraint_record f ++ rest
    → Formed greatest b (reached last u []) at (constraint_record f) (reached (fact_rank f) (with_fact u f) [])
constraint_formed greatest b u last at f rest c g h l range e =
    let body : List ℕ = fact_body f in
    let written = constraint_bytes f in
    let k = known b f in
    let from : drop at b ≡ record_bytes (fact_kind f) body ++ rest = e ∙ ap (λ xs. xs ++ rest) written in
    let inside : drop (at + 6) b ≡ body ++ rest = (leading_read b at (length body) (fact_kind f) (body ++ rest) k.few (from ∙ record_leads (fact_kind f) body rest)).more_stands in
    let fact = fact_read b u (at + 6) f rest c range inside in
    let r = record_read b at (fact_kind f) body rest k.few fact.few from in
    let rank : ℕ = fact_rank f in
    subst (λ xs. Formed greatest b (reached last u []) at xs (reached rank (with_fact u f) [])) (sym written)
    (formed_by greatest b (reached last u []) at (fact_kind f) body rest (reached rank (with_fact u f) []) r k.not_ending
    (ap (rank_in_place greatest last (length u.literals)) k.rank
    ∙ place_behind greatest last (length u.literals) rank h (omega (arith, k.constraint)) l (omega (arith, k.at_most)) (λ z. absurd (omega (arith, k.constraint))))
    (k.body u (at + 6) (length body) ∙ fact.fine)
    (ap₂ (λ r (t : Question × List Extended). reached r t.0 t.1) k.rank
    (ap₂ (λ (u : Question) (es : List Extended). (u, es)) (k.after u (at + 6) (length body) ∙ ap (with_fact u) fact.is_fact) (k.extended [] (at + 6)))))

-- an extended one after all others
pub extended_formed : (greatest : ℕ) (b : List ℕ) (u : Question) (es : List Extended) (last at : ℕ) (e : Extended) (rest : List ℕ)
    → Counts u → extended_rank ≤ greatest → head_rank ≤ last → last ≤ extended_rank → Names u e → drop at b ≡ extended_record e ++ rest
    → Formed greatest b (reached last u es) at (extended_record e) (reached extended_rank u (es ++ (e ∷ [])))
unfolding rank_of
extended_formed greatest b u es last at e rest c g h l named stands =
    let body : List ℕ = extended_body e in
    let written = extended_bytes e in
    let from : drop at b ≡ record_bytes extended_kind body ++ rest = stands ∙ ap (λ xs. xs ++ rest) written in
    let inside : drop (at + 6) b ≡ body ++ rest =
    (leading_read b at (length body) extended_kind (body ++ rest) (omega arith) (from ∙ record_leads extended_kind body rest)).more_stands in
    let x = extended_read b u (at + 6) e rest c named inside in
    let r = record_read b at extended_kind body rest (omega arith) (omega (arith, x.six)) from in
    subst (λ xs. Formed greatest b (reached last u es) at xs (reached extended_rank u (es ++ (e ∷ [])))) (sym written)
    (formed_by greatest b (reached last u es) at extended_kind body rest (reached extended_rank u (es ++ (e ∷ []))) r refl
    (place_behind greatest last (length u.literals) extended_rank h (omega arith) l g (λ z. absurd (omega arith)))
    x.fine
    (ap (λ e. reached extended_rank u (es ++ (e ∷ []))) x.is_constraint))
