use Rattle.thread_laws.proofs.BankLogs.{bank_follows, follows_its_pei}
use Rattle.thread_laws.proofs.Rows.{row_follows, fits_fresh}
use Rattle.thread_laws.proofs.laws.banks_follow.Goals as goal

pub returns : goal.returns
returns c =
    let cores = c.cores_go_on.ensures
    in record {
      continues = λ m image k log is. (bank_follows cores m image k log is).0;
      follows = λ m image k log e is row. row_follows m image k log e (bank_follows cores m image k log is).1 row;
      next = λ m image k log e is row fits. (row_follows m image k log e (bank_follows cores m image k log is).1 row, fits_fresh m log e fits);
      its_pei = follows_its_pei;
    }
