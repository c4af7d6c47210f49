-- The starred cases and those of Sums and Joins of equations hold: each is computed from the definitions.
use mathlib.Core.Path.{refl}
use mathlib.Core.List.{flat_map}
use Rattle.lists.specs.Lists.{All}
use Rattle.calculus.specs.Alphabet.{character_count, character, code_ranges, is_character, all_characters}
use Rattle.calculus.specs.Steps.{shape}
use Rattle.calculus.specs.Rules.{all_equations, divides_exactly}
use Rattle.format.specs.Fields.{u32, signed, u16s, u32s, i32s, pairs_at, bytes_of, all_within}
use Rattle.format.specs.Records.{records_by, records}
use Rattle.format.specs.Question.{rank_of, rising, fill_coefficients, fact_fault, form_fault, question_fault, question_advanced, read_from, read_by}
use Rattle.format.specs.StepForms.{multipliers_within, operands_in_range, step_of}
use Rattle.format.specs.Answer.{character_bytes, integer_bytes, string_records, encode}
use Rattle.format.specs.Reading.{fault, advanced, read_steps}
use Rattle.format.specs.ProperForm.{steps_at}
use Rattle.format.specs.Checking.{facts_within, children_within, room_for_all, keeps, verdict_by}
use Rattle.format.specs.Written.{u16_bytes, pair_bytes}
use Rattle.format.specs.Cases.{ticket, CaseHolds, starred, equation_cases}

pub starred_hold : All CaseHolds starred
unfolding character_count character code_ranges is_character all_characters shape all_equations divides_exactly u32 signed u16s u32s i32s pairs_at bytes_of records_by records rank_of
    rising fill_coefficients fact_fault form_fault question_fault question_advanced read_from read_by multipliers_within operands_in_range step_of character_bytes integer_bytes
    string_records encode all_within fault advanced read_steps facts_within children_within room_for_all keeps verdict_by steps_at u16_bytes pair_bytes ticket flat_map
starred_hold = ((refl, refl, refl), (refl, (refl, (refl, (refl, (refl, (refl, (refl, (refl, (refl, (refl, (refl, (refl, tt)))))))))))))

pub equations_hold : All CaseHolds equation_cases
unfolding shape all_equations divides_exactly u32 signed i32s pairs_at bytes_of records_by records rank_of rising fill_coefficients fact_fault form_fault question_fault question_advanced read_from
    read_by multipliers_within operands_in_range step_of integer_bytes string_records encode all_within fault advanced read_steps facts_within children_within room_for_all keeps verdict_by
    u16_bytes pair_bytes ticket flat_map
equations_hold = (refl, (refl, (refl, (refl, (refl, (refl, (refl, (refl, tt))))))))
