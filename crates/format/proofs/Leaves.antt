-- The tests for 12 and 14 in document 01's words; the strings and integers of a settled leaf meet every fact of it.
use Prim.Native.Nat.{ℕ, ◌+◌, ◌<◌, ◌≤◌}
use mathlib.Core.Path.{◌≡◌, refl, sym, subst}
use mathlib.Core.Bool.{Bool, true}
use mathlib.Core.List.{List, []}
use lib.ListN.{length}
use lib.IntN.{ℤ, pos}
use lib.Signed.{◌≤ℤ◌, le_z, le_z_yes}
use Rattle.integers.proofs.Laws.{≤ℤ_pos}
use Rattle.lists.specs.Lists.{All}
use Rattle.lists.proofs.Lists.{get_d_all, all_true→, →all_true}
use Rattle.lists.proofs.Tests.{→true, true→}
use Rattle.lists.proofs.Below.{all_below→, →all_below}
use Rattle.calculus.specs.Limits.{length_limit}
use Rattle.calculus.specs.Facts.{Question, Fact, same, not_same, is_literal, arithmetic, Branch, holds, len}
use Rattle.calculus.specs.Model.{model_value}
use Rattle.calculus.specs.Settled.{MeetsArithmetic, Settled, ShortLengths}
use Rattle.calculus.specs.Given.{GivenStrings}
use Rattle.calculus.specs.LinearForms.{value_in}
use Rattle.calculus.specs.InRange.{FactsInRange}
use Rattle.calculus.proofs.Relations.{holds→, →holds}
use Rattle.calculus.proofs.Strings.{Answers, strings_answer}
use Rattle.calculus.proofs.Given.{strings_given}
use Rattle.format.specs.Checking.{keeps_fact, keeps, short_lengths, answer_of}
use Rattle.format.proofs.Entries.{ReadInRange}

-- ---- 12 and 14 in document 01's words

keeps_fact→ : (m : List ℤ) (f : Fact) → keeps_fact m f ≡ true → MeetsArithmetic m f
keeps_fact→ m (same x y) e = tt
keeps_fact→ m (not_same x y) e = tt
keeps_fact→ m (is_literal x l) e = tt
keeps_fact→ m (arithmetic r e) h = holds→ r (value_in m e) (true→ h)

→keeps_fact : (m : List ℤ) (f : Fact) → MeetsArithmetic m f → keeps_fact m f ≡ true
→keeps_fact m (same x y) h = refl
→keeps_fact m (not_same x y) h = refl
→keeps_fact m (is_literal x l) h = refl
→keeps_fact m (arithmetic r e) h = →true (holds r (value_in m e)) (→holds r (value_in m e) h)

pub keeps→ : (m : List ℤ) (b : Branch) → keeps m b ≡ true → All (MeetsArithmetic m) b
unfolding keeps
keeps→ m b e = all_true→ (keeps_fact m) b (keeps_fact→ m) e

pub →keeps : (m : List ℤ) (b : Branch) → All (MeetsArithmetic m) b → keeps m b ≡ true
unfolding keeps
→keeps m b h = →all_true (keeps_fact m) b (→keeps_fact m) h

module _ (u : Question) (m : List ℤ) where
  abbrev short : ℕ → Bool
  short x = le_z (model_value u m len x) (pos length_limit)

  pub short_lengths→ : short_lengths u m ≡ true → ShortLengths u m
  short_lengths→ e x h = le_z_yes (all_below→ u.p short (true→ e) x h)

  pub →short_lengths : ShortLengths u m → short_lengths u m ≡ true
  →short_lengths h = →true (short_lengths u m) (→all_below u.p short (λ x l. (h x l).le))

-- ---- the strings and integers of a settled leaf whose facts the model meets

module _ (u : Question) (q : ReadInRange u) (b : Branch) (r : FactsInRange u b) (m : List ℤ) where
  pub leaf_answers : length m ≡ u.q + (u.p + u.p) → All (MeetsArithmetic m) b → Settled u b m → Answers u b m (answer_of u b m)
  leaf_answers size met settled = strings_answer u q.head q.literals_differ q.literals_over b r m size met settled

  pub leaf_gives_strings : length m ≡ u.q + (u.p + u.p) → All (MeetsArithmetic m) b → Settled u b m → GivenStrings u b m (answer_of u b m)
  leaf_gives_strings size met settled = strings_given u q.head q.literals_differ q.literals_over b r m size met settled

  -- no string is longer than 64
  pub short_strings : ShortLengths u m → Answers u b m (answer_of u b m) → All (λ s. length s ≤ length_limit) (answer_of u b m).strs
  short_strings short g = get_d_all (λ s. length s ≤ length_limit) (answer_of u b m).strs [] (λ x h.
      let below : x < u.p = subst (λ k. x < k) g.for_question.strings h in
      ≤ℤ_pos (subst (λ z. z ≤ℤ pos length_limit) (sym (g.values len x below)) (short x below)))
