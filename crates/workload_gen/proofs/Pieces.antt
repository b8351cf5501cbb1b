-- The generated text in the pieces that are written.
use Rattle.std.proofs.Common.{◌≡◌, ℕ, List, ◌++◌, codes, decimal, refl, append_assoc}
use Rattle.workload_gen.specs.Generated.{generated, rounds}
use Rattle.workload_gen.specs.declared.generating.TheConstants.{HEAD, CONSTANTS, ROUND}

head : HEAD.now ≡ codes ".entry *, start\n" ++ codes ".sum 65536, 4096\n"
head = refl

settings : CONSTANTS.now ≡ codes "add r1, r1, r15\n" ++ codes "li r2, 6364136223846793005\n" ++ codes "li r3, 1442695040888963407\n"
settings = refl

round : ROUND.now ≡ codes "loop: mul r1, r1, r2\n" ++ codes "add r1, r1, r3\n" ++ codes "shr r5, r1, 30\n" ++ codes "andi r6, r5, 32760\n" ++ codes "pinc r6, 65536\n" ++ codes "andi r7, r5, 32704\n" ++ codes "phist r8, r7, 65536, r0\n" ++ codes "addi r4, r4, -1\n" ++ codes "bne r4, r0, loop\n" ++ codes "pfence\n" ++ codes "halt\n"
round = refl

-- the lines in pieces, as lists of any numbers
pieces_joined :
    (head sum start seed feed add factor step times count loop next shift word pinc block phist less back fence halt top middle bottom : List ℕ)
    → top ≡ head ++ sum
    → middle ≡ add ++ factor ++ step
    → bottom ≡ loop ++ next ++ shift ++ word ++ pinc ++ block ++ phist ++ less ++ back ++ fence ++ halt
    → head ++ sum ++ start ++ seed ++ feed ++ add ++ factor ++ step ++ times ++ count ++ feed ++ loop ++ next ++ shift ++ word ++ pinc ++ block ++ phist ++ less ++ back ++ fence ++ halt
    ≡ top ++ ((start ++ seed ++ feed) ++ (middle ++ ((times ++ count ++ feed) ++ bottom)))
pieces_joined head sum start seed feed add factor step times count loop next shift word pinc block phist less back fence halt top middle bottom at_top at_middle at_bottom =
    rw at_top (rw at_middle (rw at_bottom (simp append_assoc refl)))

pub generated-pieces : (n times : ℕ) → times ≡ rounds n → generated n ≡ HEAD.now ++ ((codes "start: li r1, " ++ decimal n ++ codes "\n") ++ (CONSTANTS.now ++ ((codes "li r4, " ++ decimal times ++ codes "\n") ++ ROUND.now)))
generated-pieces n times same =
    rw same (pieces_joined (codes ".entry *, start\n") (codes ".sum 65536, 4096\n") (codes "start: li r1, ") (decimal n) (codes "\n")
    (codes "add r1, r1, r15\n") (codes "li r2, 6364136223846793005\n") (codes "li r3, 1442695040888963407\n") (codes "li r4, ") (decimal (rounds n))
    (codes "loop: mul r1, r1, r2\n") (codes "add r1, r1, r3\n") (codes "shr r5, r1, 30\n") (codes "andi r6, r5, 32760\n") (codes "pinc r6, 65536\n")
    (codes "andi r7, r5, 32704\n") (codes "phist r8, r7, 65536, r0\n") (codes "addi r4, r4, -1\n") (codes "bne r4, r0, loop\n") (codes "pfence\n") (codes "halt\n")
    HEAD.now CONSTANTS.now ROUND.now head settings round)
