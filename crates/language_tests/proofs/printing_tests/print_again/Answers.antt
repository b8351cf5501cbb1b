use Rattle.language_tests.proofs.printing_tests.print_again.Goals as goal

pub print-requires : goal.print-requires
print-requires c = record { printable = c.spelled_programs_are_printable.ensures c.args.text.now c.in_ok-program.program c.in_ok-program.ensures.ok }
