-- The worked runs, by computing them.
use Rattle.std.proofs.Common.{refl}
use Rattle.rv_isa.specs.Decode.{decode_of, jalr_of, branch_of, load_of, store_of, op_imm_of, shift_left_of, shift_right_of, op_of, base_op_of, other_op_of, multiply_of, fence_of, system_of, imm_i, imm_s, imm_b, imm_u, imm_j}
use Rattle.rv_isa.specs.Memory.{read, write}
use Rattle.rv_isa.specs.Isa.{step}
use Rattle.rv_isa.specs.Examples.{WorkedRows, WorkedRuns}

pub worked_runs : WorkedRuns
unfolding decode_of jalr_of branch_of load_of store_of op_imm_of shift_left_of shift_right_of op_of base_op_of other_op_of multiply_of fence_of system_of imm_i imm_s imm_b imm_u imm_j read write step
worked_runs = record {
  a_put_and_an_exit = record { stop_is = refl; output_is = refl };
  one_turn_less = record { stop_is = refl; output_is = refl };
  a_byte_and_the_inputs_end = record { stop_is = refl; output_is = refl };
  no_text = record { stop_is = refl; output_is = refl };
  a_misaligned_target = record { stop_is = refl; output_is = refl };
  a_store_below_the_stack = record { stop_is = refl; output_is = refl };
  the_guards_end_is_tested_first = record { stop_is = refl; output_is = refl };
  below_the_guard = record { stop_is = refl; output_is = refl };
  a_fetch_in_the_guard = record { stop_is = refl; output_is = refl };
  a_store_to_the_text = record { stop_is = refl; output_is = refl };
  a_load_from_the_text = record { stop_is = refl; output_is = refl };
  a_store_and_a_load = record { stop_is = refl; output_is = refl };
  a_misaligned_load = record { stop_is = refl; output_is = refl };
  the_stack_ends = record { stop_is = refl; output_is = refl };
  no_instruction = record { stop_is = refl; output_is = refl };
  a_bad_call = record { stop_is = refl; output_is = refl };
}

pub worked_rows : WorkedRows
worked_rows = record {
  the_sum_wraps = refl;
  the_difference_wraps = refl;
  sll_takes_five_bits = refl;
  slt_is_signed = refl;
  sltu_is_unsigned = refl;
  xor_row = refl;
  srl_row = refl;
  sra_copies_the_sign = refl;
  or_row = refl;
  and_row = refl;
  the_product_wraps = refl;
  mulh_row = refl;
  mulh_of_opposite_signs = refl;
  mulhsu_row = refl;
  mulhu_row = refl;
  div_rounds_toward_zero = refl;
  div_by_zero = refl;
  div_overflows = refl;
  divu_row = refl;
  divu_by_zero = refl;
  rem_has_the_dividends_sign = refl;
  rem_by_zero = refl;
  rem_overflows = refl;
  remu_row = refl;
  remu_by_zero = refl;
  addi_row = refl;
  slti_row = refl;
  sltiu_of_minus_one = refl;
  xori_inverts = refl;
  ori_row = refl;
  andi_row = refl;
  slli_row = refl;
  srli_row = refl;
  srai_row = refl;
  lui_row = refl;
  auipc_row = refl;
  jal_row = refl;
  jalr_clears_bit_0 = refl;
  beq_row = refl;
  bne_row = refl;
  blt_row = refl;
  bge_row = refl;
  bltu_row = refl;
  bgeu_row = refl;
  lb_row = refl;
  lh_row = refl;
  lw_row = refl;
  lbu_row = refl;
  lhu_row = refl;
  a_negative_byte = refl;
  a_positive_halfword = refl;
  sb_row = refl;
  sh_row = refl;
  sw_row = refl;
  fence_row = refl;
  ecall_row = refl;
  ebreak_row = refl;
  x0_reads_zero = refl;
}
