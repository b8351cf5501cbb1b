use Rattle.coherence_laws.specs.Holdings.{data_of}
use Rattle.machine_laws.proofs.Memory.{Laws, memory_at_start, memory_next, memory_issued, memory_message, memory_seen, memory_shows, memory_kept, memory_event, memory_journal}
use Rattle.machine_laws.proofs.laws.contents_are_kept.Goals as goal

pub returns : goal.returns
returns c =
    let keeps = c.invariants_are_kept.ensures
    in let contents = c.contents_are_kept.ensures
    in let reads = c.reads_are_current.ensures
    in let follows = c.lines_follow.ensures
    in let flat = c.flat_memory_is_held.ensures
    in let laws : Laws = record { keeps = keeps; turns = c.turns_are_allowed.ensures; contents = contents; follows = follows; goes = c.flat_memory_goes_on.ensures }
    in record {
      start = memory_at_start follows keeps flat;
      next = memory_next keeps contents follows;
      issued = memory_issued contents;
      message = memory_message keeps contents follows;
      seen = memory_seen contents;
      shows = memory_shows keeps contents follows;
      copies = λ m s k memory core b i h. reads.copies m s (data_of m k) memory core b i h.current;
      buffers = λ m s k memory id p h. reads.buffers m s (data_of m k) memory id p h.buffers;
      vaults = λ m s k memory id p i h. reads.vaults m s (data_of m k) memory id p i h.current;
      same = memory_kept contents;
      event = memory_event laws;
      journal = memory_journal laws flat;
    }
