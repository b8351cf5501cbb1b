-- What a check ends with: a status, and a line.
use Rattle.std.specs.Prelude.{ℕ, true, false, List, [], ◌∷◌, codes, decimal}
use Rattle.pei_types.specs.declared.clauses.Clause.{Clause}
use Rattle.pei_types.specs.declared.clauses.Clause.TheVariants as clause
use Rattle.pei_types.specs.Texts.{line}
use Rattle.trace_check.specs.declared.verdicts.Verdict.{Verdict}
use Rattle.trace_check.specs.declared.verdicts.Verdict.TheVariants as verdict

-- the word of a clause
abbrev pub clause_word : Clause → List ℕ
clause_word clause.Replies = codes "replies"
clause_word clause.Calls = codes "calls"
clause_word clause.Order = codes "order"
clause_word clause.Directory = codes "directory"
clause_word clause.Fence = codes "fence"
clause_word clause.Race = codes "race"
clause_word clause.Guard = codes "guard"
clause_word clause.Recency = codes "recency"
clause_word clause.Monitor = codes "monitor"
clause_word clause.Next = codes "next"
clause_word clause.Seal = codes "seal"

abbrev pub verdict_line : Verdict → List ℕ
verdict_line (verdict.Legal true) = codes "legal complete\n"
verdict_line (verdict.Legal false) = codes "legal prefix\n"
verdict_line (verdict.Illegal number c) = line (codes "illegal" ∷ decimal number ∷ clause_word c ∷ [])

abbrev pub status_of_verdict : Verdict → ℕ
status_of_verdict (verdict.Legal complete) = 0
status_of_verdict (verdict.Illegal number c) = 12
