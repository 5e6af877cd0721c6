-- The worked runs of modules, by computing them.
use Rattle.std.proofs.Common.{refl}
use Rattle.ir_core.specs.Sizes.{layout}
use Rattle.ir_core.specs.Source.{source_step}
use Rattle.ir_core.specs.SourceExamples.{WorkedSourceRuns}

pub worked_source_runs : WorkedSourceRuns
unfolding layout source_step
worked_source_runs = record {
  a_shift_by_the_width = record { before = (1, refl); after = (1, refl) };
  an_operation_on_poison = record { before = (1, refl); after = (1, refl) };
  a_choice_by_poison = record { before = (1, refl); after = (1, refl) };
  a_byte_that_was_never_stored = record { before = (1, refl); after = (1, refl) };
  a_pointers_part_as_a_number = record { before = (1, refl); after = (1, refl) };
  undef_is_zero = (1, refl);
  by_zero = (1, refl);
  the_least_by_minus_one = (1, refl);
  poison_by_one = record { before = (1, refl); after = (1, refl) };
  poison_by_minus_one = (1, refl);
  a_stored_pointer = (1, refl);
  a_pointer_with_a_part_written_over = (1, refl);
  four_zero_bytes_are_null = (1, refl);
  a_global_variable = (1, refl);
  beyond_the_block = (1, refl);
  misaligned = (1, refl);
  equal_in_one_block = (1, refl);
  apart_in_two_blocks = (1, refl);
  null_is_null = (1, refl);
  a_block_is_not_null = (1, refl);
  an_end_and_a_start = record { before = (1, refl); after = (1, refl) };
  in_order_in_one_block = (1, refl);
  no_order_in_two_blocks = record { before = (1, refl); after = (1, refl) };
  null_moved_is_poison = record { before = (1, refl); after = (1, refl) };
  a_call_and_a_return = (1, refl);
  one_turn_less = refl;
  a_dead_block = (1, refl);
  an_exit_in_a_call = (2, refl);
  a_byte_through = (1, refl);
  the_inputs_end = (1, refl);
  a_loop = (1, refl);
  no_way_on = (1, refl);
  a_branch_on_poison = (1, refl);
}
