-- Where the records of a question stand that was read up to a position, and what holds of each. No demand names it: it serves contracts and proofs.
use Rattle.std.specs.Prelude.{ℕ, ◌+◌, ◌*◌, ◌%◌, ◌≤◌, ◌<◌, ◌≡◌, ◌⊎◌, true, List, length}
use Rattle.calculus.specs.Alphabet.{all_characters}
use Rattle.calculus.specs.Limits.{alphabet_limit, variable_limit, literal_limit, length_limit}
use Rattle.format.specs.Records.{size, kind, next}
use Rattle.format.specs.Question.{head_rank, literal_rank, arithmetic_rank, rank_of, extended_kind, text_of, fact_fault, extended_fault, form_fault}
use Rattle.format.specs.Places.{skip, literals_from, constraints_from, extended_from, Numbers, read_to}

-- the record at a position is a literal over n characters
pub record LiteralAt (b : List ℕ) (n at : ℕ) : Type 0 where
  pub literal : rank_of (kind b at) ≡ literal_rank
  pub whole : next b at ≤ length b
  pub some_character : 4 ≤ size b at
  pub short : size b at ≤ 4 * length_limit
  pub characters_whole : size b at % 4 ≡ 0
  pub characters_over : all_characters n (text_of b (at + 6) (size b at)) ≡ true

-- the record at a position is a constraint of kind 3 or 4 over p string and q integer variables and k literals besides the empty one
pub record FactAt (b : List ℕ) (p q k at : ℕ) : Type 0 where
  pub whole : next b at ≤ length b
  pub formed : fact_fault b p k (q + (p + p)) (kind b at) (at + 6) (size b at) ≡ 0

-- or an extended one
pub record ExtendedAt (b : List ℕ) (p q at : ℕ) : Type 0 where
  pub whole : next b at ≤ length b
  pub of_kind : kind b at ≡ extended_kind
  pub formed : extended_fault b p q (at + 6) (size b at) ≡ 0

-- one of the two
abbrev pub ConstraintAt : List ℕ → ℕ → ℕ → ℕ → ℕ → Type 0
ConstraintAt b p q k at = FactAt b p q k at ⊎ ExtendedAt b p q at

-- the numbers read and where their records stand
pub record StandsTo (b : List ℕ) (s : Numbers) (at : ℕ) : Type 0 where
  pub within : at ≤ length b
  -- after the head there is a character
  pub some_character : head_rank ≤ s.last → 1 ≤ s.n
  pub few_characters : s.n ≤ alphabet_limit
  pub few_strings : s.p ≤ variable_limit
  pub few_integers : s.q ≤ variable_limit
  pub few_literals : s.literals ≤ literal_limit
  -- each constraint takes bytes
  pub counted : s.constraints + s.extended ≤ at
  -- nothing was read yet, or the literals stand where the head ends, the constraints after the literals and the extended ones after these, up to here
  pub nothing_yet : s.last ≡ 0 → at ≡ 0
  pub head_ends : head_rank ≤ s.last → next b 0 ≡ literals_from
  pub ends_here : head_rank ≤ s.last → at ≡ skip b s.extended (extended_from b s.literals s.constraints)
  pub literals_first : s.last ≤ literal_rank → s.constraints ≡ 0
  pub facts_first : s.last ≤ arithmetic_rank → s.extended ≡ 0
  pub literals_stand : (j : ℕ) → j < s.literals → LiteralAt b s.n (skip b j literals_from)
  pub constraints_stand : (j : ℕ) → j < s.constraints → FactAt b s.p s.q s.literals (skip b j (constraints_from b s.literals))
  pub extended_stand : (j : ℕ) → j < s.extended → ExtendedAt b s.p s.q (skip b j (extended_from b s.literals s.constraints))

-- the record at the position where reading arrived has no fault of its form: it is the next one
pub record NextAt (b : List ℕ) (s : Numbers) (at : ℕ) : Type 0 where
  pub greatest : ℕ
  pub stands : StandsTo b s at
  pub formed : form_fault greatest b (read_to b s) at ≡ 0
