use Rattle.machine_file.specs.Machine.{table_of}
use Rattle.machine_file.proofs.Verdicts.{within_limits, describes_well, describes_file, one_machine}
use Rattle.machine_file.proofs.evidence.files_describe_or_fail.Goals as goal

pub returns : goal.returns
returns c =
    record {
      limits = within_limits;
      never_both = describes_well;
      never_both_of_files = λ bytes. describes_file (table_of bytes);
      one_machine = one_machine;
    }
