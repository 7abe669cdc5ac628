-- To unfold `definitions` is to unfold every definition, here and below, that computes.
use Rattle.model_problems.specs.Computing
use Rattle.model_files.specs.Bytes
use Rattle.model_files.specs.File
use Rattle.model_files.specs.Journal

unfoldable pub definitions : Unit {0}
unfolding Computing.definitions Bytes.u16_at Bytes.u32_at Bytes.signed Bytes.i32_at Bytes.u16_bytes Bytes.u32_bytes Bytes.unsigned Bytes.i32_bytes
    Bytes.block Bytes.word_at Bytes.checksum Bytes.is_zero Bytes.zero_between Bytes.zero_from Bytes.padded_to Bytes.padded Bytes.sealed File.magic
    File.variables_in File.constraints_in File.budget_in File.bounds_offset File.bounds_in File.threshold_offset File.threshold_in File.coefficient_offset
    File.coefficient_in File.constraint_in File.constraint_of File.problem_in File.whole_blocks File.check_matches File.checks_match File.magic_matches
    File.block_count_matches File.block_padded File.constraint_padded File.head_padded File.padding_zero File.read_error File.read_file File.bounds_bytes
    File.threshold_bytes File.limits_bytes File.head_bytes File.coefficient_bytes File.numbers_bytes File.constraint_bytes File.block_of File.file_of
    File.file_length File.write_error File.written_by File.write_file Journal.record_magic Journal.used_bytes Journal.record_head Journal.record_content
    Journal.record_bytes Journal.cut_offset Journal.cut_coefficient Journal.cut_in
definitions = tt
