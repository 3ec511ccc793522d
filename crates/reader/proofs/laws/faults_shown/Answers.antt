use Rattle.std.proofs.Common.{refl}
use Rattle.lex.specs.Tokens.{tok_at, toks}
use Rattle.reader.proofs.laws.faults_shown.Goals as goal

pub returns : goal.returns
unfolding tok_at toks
returns c = record {
  a_site_twice = record { is = refl; decides = refl };
  an_alias_for_what_is_no_site = record { is = refl; decides = refl };
  an_alias_twice_in_one_block = record { is = refl; decides = refl };
  an_alias_again_in_another_block = record { is = refl; decides = refl };
  a_site_under_the_name_of_the = record { is = refl; decides = refl };
  a_call_of_what_is_not_defined = record { is = refl; decides = refl };
  an_argument_of_another_type = record { is = refl; decides = refl };
  an_argument_too_many = record { is = refl; decides = refl };
  a_variable_that_nothing_binds = record { is = refl; decides = refl };
  a_number_as_a_target = record { is = refl; decides = refl };
  a_target_that_its_own_action_would = record { is = refl; decides = refl };
  two_formals_of_one_name = record { is = refl; decides = refl };
  a_variable_that_was_bound_inside_what = record { is = refl; decides = refl };
  a_variable_in_an_opening_tuple = record { is = refl; decides = refl };
  the_earlier_of_two_faults_though_the = record { is = refl; decides = refl };
  a_ninth_variable_in_scope = record { is = refl; decides = refl };
}
