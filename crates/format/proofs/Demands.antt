-- The demands hold, for every byte list.
use Rattle.calculus.proofs.NormalForms.{lead_positive}
use Rattle.format.specs.Demands.{Demands}
use Rattle.format.proofs.Sizes.{small_buffers, long_tickets}
use Rattle.format.proofs.Buffers.{lengths_kept}
use Rattle.format.proofs.ProperBytes.{form_words, form_one_words}
use Rattle.format.proofs.Questions.{questions_put, questions_asked}
use Rattle.format.proofs.Applied.{refusals_in_words}
use Rattle.format.proofs.AnswersWritten.{answers_written, answers_unformed, answers_outside}
use Rattle.format.proofs.NoSolution.{derivations_exact, no_solution_sound}
use Rattle.format.proofs.Strings.{leaves_exact}
use Rattle.format.proofs.Answered.{strings_hold}
use Rattle.format.proofs.Judged.{judging_is_theory}
use Rattle.format.proofs.Shown.{record_concerned, constraints_counted}
use Rattle.format.proofs.Extended.{reads_alike, extended_refused}
use Rattle.format.proofs.Absent.{extended_absent}
use Rattle.format.proofs.Functions.{characters_turned, in_decimal}
use Rattle.format.proofs.Before.{accepted_now, rules_before}
use Rattle.format.proofs.Cores.{core_clashes, others_empty, words_hold_flags}
use Rattle.format.proofs.Sameness.{found_same, same_by_sets, found_different, refused_as_judged, divided_out}
use Rattle.format.proofs.ReadBack.{answers_judged}
use Rattle.format.proofs.Proper.{no_solution_proper, strings_proper}
use Rattle.format.proofs.NeedLimits.{within_limits}
use Rattle.format.proofs.Needs.{needs_met, report_in_words, need_numbers}
use Rattle.format.proofs.Reports.{complete_reported, unclosed_refused}

pub demands : Demands
demands = record {
  th_1_small = small_buffers;
  th_1_long = long_tickets;
  th_1_length = lengths_kept;
  th_form = form_words;
  th_form_one = form_one_words;
  th_put = questions_put;
  th_asked = questions_asked;
  th_refusals = refusals_in_words;
  th_2 = derivations_exact;
  th_2_covers = no_solution_proper;
  th_3 = judging_is_theory;
  th_3_all = answers_judged;
  th_3_answers = answers_written;
  th_3_unformed = answers_unformed;
  th_3_outside = answers_outside;
  th_l1 = record_concerned;
  th_l2 = needs_met;
  th_l2_met = report_in_words;
  th_l2_reported = complete_reported;
  th_l2_unclosed = unclosed_refused;
  th_l2_limits = within_limits;
  th_l2_numbers = need_numbers;
  th_l3 = reads_alike;
  th_l3_counted = constraints_counted;
  th_l3_refused = extended_refused;
  th_l3_absent = extended_absent;
  th_l3_case = characters_turned;
  th_l3_decimals = in_decimal;
  th_l4 = accepted_now;
  th_l4_before = rules_before;
  th_l5 = core_clashes;
  th_l5_empty = others_empty;
  th_l5_words = words_hold_flags;
  th_l6 = found_same;
  th_l6_sets = same_by_sets;
  th_l6_different = found_different;
  th_l6_refused = refused_as_judged;
  th_l6_divisor = divided_out;
  th_l6_sign = lead_positive;
  th_4 = no_solution_sound;
  th_5 = strings_hold;
  th_6 = leaves_exact;
  th_6_covers = strings_proper;
}
