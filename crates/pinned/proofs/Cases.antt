-- The cases that pin the numbers of the rules, their children, the limits and the order of refusals hold: each is computed from the definitions.
use mathlib.Core.Path.{refl}
use mathlib.Core.List.{flat_map}
use Rattle.lists.specs.Lists.{lowest}
use Rattle.calculus.specs.Alphabet.{character_count, character, code_ranges, is_character, all_characters}
use Rattle.calculus.specs.Steps.{shape}
use Rattle.calculus.specs.Rules.{all_equations, divides_exactly, states_equal, states_difference}
use Rattle.format.specs.Fields.{u32, signed, u16s, u32s, i32s, pairs_at, bytes_of, all_within}
use Rattle.format.specs.Records.{records_by, records}
use Rattle.format.specs.Question.{rank_of, rising, fill_coefficients, fact_fault, form_fault, question_fault, question_advanced, read_from, read_by}
use Rattle.format.specs.StepForms.{multipliers_within, operands_in_range, step_of}
use Rattle.format.specs.Answer.{character_bytes, integer_bytes, string_records, encode, answer_form, outside}
use Rattle.format.specs.Places.{skip, texts}
use Rattle.format.specs.Judging.{submission}
use Rattle.format.specs.Reading.{fault, advanced, read_steps}
use Rattle.format.specs.Checking.{facts_within, children_within, room_for_all, keeps, verdict_by}
use Rattle.format.specs.Written.{u16_bytes, pair_bytes}
use Rattle.format.specs.Cases.{ticket}
use Rattle.pinned.specs.Cases.{filled, texts_to, columns_to, numbers_to, RulesPinned, LimitsPinned, OrderPinned}

pub rules_pinned : RulesPinned
unfolding character_count character code_ranges all_equations divides_exactly states_equal states_difference lowest u32 signed u16s pairs_at bytes_of fill_coefficients step_of u16_bytes
    pair_bytes flat_map filled
rules_pinned = record {
  rule_numbers_law = (refl, (refl, (refl, (refl, (refl, (refl, (refl, (refl, (refl, (refl, (refl, (refl, (refl, (refl, tt))))))))))))));
  children_of_rules_law = (refl, (refl, (refl, (refl, (refl, (refl, (refl, (refl, (refl, (refl, (refl, (refl, (refl, (refl, (refl, (refl, (refl, (refl, (refl, tt)))))))))))))))))));
}

pub limits_pinned : LimitsPinned
unfolding character_count character code_ranges is_character all_characters shape all_equations divides_exactly states_equal states_difference lowest u32 signed u16s u32s i32s pairs_at
    bytes_of records_by records rank_of rising fill_coefficients fact_fault form_fault question_fault question_advanced read_from read_by multipliers_within operands_in_range step_of
    character_bytes integer_bytes string_records encode all_within skip texts answer_form outside submission fault advanced read_steps facts_within children_within room_for_all keeps
    verdict_by u16_bytes pair_bytes ticket flat_map filled texts_to columns_to numbers_to
limits_pinned = record {
  sizes = (refl, (refl, (refl, (refl, (refl, tt)))));
  heads = (refl, (refl, (refl, (refl, (refl, (refl, tt))))));
  literals = (refl, (refl, (refl, (refl, (refl, (refl, (refl, tt)))))));
  strings = (refl, (refl, (refl, (refl, tt))));
  forms = (refl, (refl, (refl, (refl, (refl, (refl, (refl, (refl, (refl, tt)))))))));
  counts = (refl, (refl, (refl, (refl, tt))));
  claims = (refl, (refl, tt));
  sums = (refl, (refl, (refl, (refl, (refl, (refl, (refl, (refl, (refl, (refl, (refl, tt)))))))))));
  branches = (refl, (refl, (refl, tt)));
  variables = (refl, (refl, (refl, (refl, tt))));
  cards = (refl, (refl, (refl, tt)));
  child_numbers_law = (refl, (refl, (refl, (refl, (refl, (refl, (refl, (refl, (refl, (refl, (refl, (refl, (refl, (refl, (refl, tt)))))))))))))));
  unknown_rules_law = (refl, (refl, (refl, tt)));
  pending_splits_law = (refl, (refl, tt));
  models = (refl, (refl, (refl, (refl, tt))));
}

pub order_pinned : OrderPinned
unfolding character_count character code_ranges is_character all_characters shape all_equations divides_exactly states_equal states_difference lowest u32 signed u16s u32s i32s pairs_at
    bytes_of records_by records rank_of rising fill_coefficients fact_fault form_fault question_fault question_advanced read_from read_by multipliers_within operands_in_range step_of
    character_bytes integer_bytes string_records encode all_within skip texts answer_form outside submission fault advanced read_steps facts_within children_within room_for_all keeps
    verdict_by u16_bytes pair_bytes ticket flat_map filled texts_to columns_to numbers_to
order_pinned = record {
  first_of_two_law = (refl, (refl, (refl, (refl, (refl, (refl, (refl, (refl, (refl, (refl, (refl, (refl, (refl, (refl, tt))))))))))))));
  sites = (refl, (refl, (refl, (refl, (refl, (refl, (refl, (refl, (refl, (refl, (refl, (refl, (refl, (refl, (refl, (refl, (refl, tt)))))))))))))))));
  judgements = (refl, (refl, (refl, (refl, (refl, (refl, (refl, (refl, (refl, (refl, (refl, tt)))))))))));
}
