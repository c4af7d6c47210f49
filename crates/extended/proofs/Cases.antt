-- The cases of extended constraints hold: each is computed from the definitions.
use mathlib.Core.Path.{refl}
use mathlib.Core.List.{flat_map}
use Rattle.lists.specs.Lists.{All, lowest}
use Rattle.calculus.specs.Alphabet.{character_count, character, is_character, all_characters}
use Rattle.calculus.specs.Extended.{upper, lower, numeric, numeral_from, decimal_within, precedes}
use Rattle.format.specs.Fields.{u32, signed, u16s, u32s, i32s, pairs_at, bytes_of, all_within}
use Rattle.format.specs.Records.{records_by, records}
use Rattle.format.specs.Question.{rank_of, rising, fill_coefficients, fact_fault, form_fault, question_fault, question_advanced, read_from, read_by}
use Rattle.format.specs.Places.{skip, texts}
use Rattle.format.specs.Answer.{character_bytes, integer_bytes, string_records, encode, answer_form, outside}
use Rattle.format.specs.Judging.{submission}
use Rattle.format.specs.Written.{u16_bytes, pair_bytes}
use Rattle.format.specs.Cases.{ticket, CaseHolds, extended_cases}

pub extended_hold : All CaseHolds extended_cases
unfolding character_count character is_character all_characters u32 signed u16s u32s i32s pairs_at bytes_of records_by records rank_of rising fill_coefficients fact_fault form_fault
    question_fault question_advanced read_from read_by character_bytes integer_bytes string_records encode all_within skip texts answer_form outside submission lowest upper lower numeric
    numeral_from decimal_within precedes u16_bytes pair_bytes ticket flat_map
extended_hold =
    (refl, (refl, (refl, (refl, (refl, (refl, (refl, (refl, (refl, (refl, (refl, (refl, (refl, (refl, (refl, tt)))))))))))))))
