-- What lists of words ask for.
use Rattle.std.proofs.Common.{◌≡◌, ℕ, ◌<◌, ◌≤◌, ◌^◌, Bool, true, false, List, [], ◌∷◌, length, get_or, drop, Option, Some, None, option_map, option_and_then, if◌then◌else◌, codes, refl, sym, ◌∙◌, subst, arith}
use Rattle.std.specs.Str.{bytes_eq}
use Rattle.std.proofs.lemmas.Slice.Eq.{bytes_eq-Decides}
use Rattle.sched_run.specs.declared.policies.Policy.{Policy}
use Rattle.pei_cli.specs.Words.{checks_as, job_of, machine_as, output_as, threaded_job_of}
use Rattle.pei_cli.specs.Commands.{Command, MachineWord, Run, ScheduleWord, ScheduledRun, Sched, KernelSched, Check, Gen, Output, decimal_below, machine_word, schedule_word, turns_word, scheduled_words, asm_words, run_words, check_words, gen_words, kernel_words, output_words}
use Rattle.pei_cli.specs.Jobs.{Asked, Job, asked_by, asked_of, job_of_words, policy_of_word, threaded_by, threaded_of}
use Rattle.pei_cli.specs.declared.words.Machine.{Machine}
use Rattle.pei_cli.specs.declared.words.Output.{Output as Written}

-- ---- the other verbs ask the call without threads for nothing

no_run : (rest : List (List ℕ)) → asked_by (run_words rest) ≡ None
no_run [] = refl
no_run (program ∷ []) = refl
no_run (program ∷ machine ∷ more) = by (output_words more)
  where
    by : (o : Option Output) → asked_by (option_map (Run program (machine_word machine)) o) ≡ None
    by None = refl
    by (Some output) = refl

-- another word
not_this : (word verb : List ℕ) → (verb ≡ word → ⊥) → bytes_eq word verb ≡ false
not_this word verb other = by (bytes_eq word verb) refl
  where
    by : (b : Bool) → bytes_eq word verb ≡ b → bytes_eq word verb ≡ false
    by true e = absurd (other (sym ((bytes_eq-Decides word verb).0 e)))
    by false e = e

-- a test of a verb, of which a fact is wanted in both cases, or is false in the first
test : {A : Type 0} (b : Bool) (this other : A) (P : A → Type 0) → (b ≡ true → P this) → P other → P (if b then this else other)
test true this other P then_this then_other = then_this refl
test false this other P then_this then_other = then_other

never : {A : Type 0} (b : Bool) (this other : A) (P : A → Type 0) → b ≡ false → P other → P (if b then this else other)
never b this other P e then_other = test b this other P (λ t. absurd (cc (t, e))) then_other

-- nor does any verb but these
pub other_verb : (verb : List ℕ) (rest : List (List ℕ)) → (verb ≡ codes "asm" → ⊥) → (verb ≡ codes "sched" → ⊥) → (verb ≡ codes "check" → ⊥) → (verb ≡ codes "gen" → ⊥) → (verb ≡ codes "kernel" → ⊥) → (verb ≡ codes "ksched" → ⊥) → asked_of (verb ∷ rest) ≡ None
other_verb verb rest not_asm not_sched not_check not_gen not_kernel not_ksched =
    never (bytes_eq (codes "asm") verb) _ _ IsNothing (not_this (codes "asm") verb not_asm)
    (never (bytes_eq (codes "sched") verb) _ _ IsNothing (not_this (codes "sched") verb not_sched)
    (test (bytes_eq (codes "run") verb) _ _ IsNothing (λ e. no_run rest)
    (never (bytes_eq (codes "check") verb) _ _ IsNothing (not_this (codes "check") verb not_check)
    (never (bytes_eq (codes "gen") verb) _ _ IsNothing (not_this (codes "gen") verb not_gen)
    (never (bytes_eq (codes "kernel") verb) _ _ IsNothing (not_this (codes "kernel") verb not_kernel)
    (never (bytes_eq (codes "ksched") verb) _ _ IsNothing (not_this (codes "ksched") verb not_ksched) refl))))))
  where
    IsNothing : Option Command → Type 0
    IsNothing c = asked_by c ≡ None

-- ---- a scheduled run

-- such a command asks for the run of its job
abbrev pub Asks : ScheduledRun → (Job → Asked) → Type 0
Asks run asks =
    (file : List ℕ) (machine : MachineWord) (schedule : ScheduleWord) (turns : ℕ) (output : Output) → asked_by (Some (run file machine schedule turns output)) ≡ Some (asks (job_of_words file machine schedule turns output))

-- the run that the words behind `sched` or `ksched` ask for
pub asked_run : (run : ScheduledRun) (asks : Job → Asked) → Asks run asks → (words : List (List ℕ)) (machine seed count : List ℕ) (rest : List (List ℕ)) (k : Machine) (policy : Policy) (turns : ℕ) (output : Written) → 4 ≤ length words → machine ≡ get_or words 1 machine → seed ≡ get_or words 2 seed → count ≡ get_or words 3 count → rest ≡ drop 4 words → option_map policy_of_word (schedule_word seed) ≡ Some policy → turns_word count ≡ Some turns → machine_word machine ≡ machine_as machine k → output_words rest ≡ Some (output_as output) → asked_by (scheduled_words run words) ≡ Some (asks (job_of (get_or words 0 []) (get_or words 1 []) (record { machine = k; policy = policy; turns = turns; output = output })))
asked_run run asks same [] machine seed count rest k policy turns output some at_1 at_2 at_3 behind seeds counts named written = absurd (omega (arith, some))
asked_run run asks same (a ∷ []) machine seed count rest k policy turns output some at_1 at_2 at_3 behind seeds counts named written = absurd (omega (arith, some))
asked_run run asks same (a ∷ b ∷ []) machine seed count rest k policy turns output some at_1 at_2 at_3 behind seeds counts named written = absurd (omega (arith, some))
asked_run run asks same (a ∷ b ∷ c ∷ []) machine seed count rest k policy turns output some at_1 at_2 at_3 behind seeds counts named written = absurd (omega (arith, some))
asked_run run asks same (a ∷ b ∷ c ∷ d ∷ more) machine seed count rest k policy turns output some at_1 at_2 at_3 behind seeds counts named written =
    by (schedule_word c) (turns_word d) (machine_word b) (output_words more)
    (subst (λ (w : List ℕ). option_map policy_of_word (schedule_word w) ≡ Some policy) at_2 seeds)
    (subst (λ (w : List ℕ). turns_word w ≡ Some turns) at_3 counts)
    (subst (λ (w : List ℕ). machine_word w ≡ machine_as w k) at_1 named)
    (subst (λ (ws : List (List ℕ)). output_words ws ≡ Some (output_as output)) behind written)
  where
    by : (s : Option ScheduleWord) (n : Option ℕ) (m : MachineWord) (o : Option Output) → option_map policy_of_word s ≡ Some policy → n ≡ Some turns → m ≡ machine_as b k → o ≡ Some (output_as output)
        → asked_by (option_and_then (λ x. option_and_then (λ y. option_map (run a m x y) o) n) s) ≡ Some (asks (job_of a b (record { machine = k; policy = policy; turns = turns; output = output })))
    by None n m o seeds counts named written = absurd (cc seeds)
    by (Some s) None m o seeds counts named written = absurd (cc counts)
    by (Some s) (Some n) m None seeds counts named written = absurd (cc written)
    by (Some s) (Some n) m (Some w) seeds counts named written = same a m s n w ∙ cc

-- ---- a check

-- the check that three words behind `check` ask for
pub asked_check : (words : List (List ℕ)) (machine : List ℕ) (k : Machine) → 3 ≤ length words → length words < 4 → machine ≡ get_or words 1 machine → machine_word machine ≡ machine_as machine k → asked_by (check_words words) ≡ Some (checks_as (get_or words 0 []) (get_or words 1 []) (get_or words 2 []) k)
asked_check [] machine k some few at_1 named = absurd (omega (arith, some))
asked_check (a ∷ []) machine k some few at_1 named = absurd (omega (arith, some))
asked_check (a ∷ b ∷ []) machine k some few at_1 named = absurd (omega (arith, some))
asked_check (a ∷ b ∷ c ∷ d ∷ more) machine k some few at_1 named = absurd (omega (arith, few))
asked_check (a ∷ b ∷ c ∷ []) machine k some few at_1 named =
    by (machine_word b) (subst (λ (w : List ℕ). machine_word w ≡ machine_as w k) at_1 named)
  where
    by : (m : MachineWord) → m ≡ machine_as b k → asked_by (Some (Check a m c)) ≡ Some (checks_as a b c k)
    by m e = cc

-- ---- a run by threads

-- the other verbs ask the call with threads for nothing
no_threads_by_asm : (rest : List (List ℕ)) → threaded_by (asm_words rest) ≡ None
no_threads_by_asm [] = refl
no_threads_by_asm (a ∷ []) = refl
no_threads_by_asm (a ∷ b ∷ more) = refl

no_threads_by_sched : (run : ScheduledRun) → ((file : List ℕ) (machine : MachineWord) (schedule : ScheduleWord) (turns : ℕ) (output : Output) → threaded_by (Some (run file machine schedule turns output)) ≡ None) → (rest : List (List ℕ)) → threaded_by (scheduled_words run rest) ≡ None
no_threads_by_sched run none [] = refl
no_threads_by_sched run none (a ∷ []) = refl
no_threads_by_sched run none (a ∷ b ∷ []) = refl
no_threads_by_sched run none (a ∷ b ∷ c ∷ []) = refl
no_threads_by_sched run none (a ∷ b ∷ c ∷ d ∷ more) = by (schedule_word c) (turns_word d) (output_words more)
  where
    by : (s : Option ScheduleWord) (n : Option ℕ) (o : Option Output) → threaded_by (option_and_then (λ x. option_and_then (λ y. option_map (run a (machine_word b) x y) o) n) s) ≡ None
    by None n o = refl
    by (Some s) None o = refl
    by (Some s) (Some n) None = refl
    by (Some s) (Some n) (Some o) = none a (machine_word b) s n o

no_threads_by_check : (rest : List (List ℕ)) → threaded_by (check_words rest) ≡ None
no_threads_by_check [] = refl
no_threads_by_check (a ∷ []) = refl
no_threads_by_check (a ∷ b ∷ []) = refl
no_threads_by_check (a ∷ b ∷ c ∷ []) = refl
no_threads_by_check (a ∷ b ∷ c ∷ d ∷ more) = refl

no_threads_by_gen : (rest : List (List ℕ)) → threaded_by (gen_words rest) ≡ None
no_threads_by_gen [] = refl
no_threads_by_gen (a ∷ b ∷ more) = refl
no_threads_by_gen (a ∷ []) = by (decimal_below (2 ^ 64) a)
  where
    by : (n : Option ℕ) → threaded_by (option_map Gen n) ≡ None
    by None = refl
    by (Some n) = refl

no_threads_by_kernel : (rest : List (List ℕ)) → threaded_by (kernel_words rest) ≡ None
no_threads_by_kernel [] = refl
no_threads_by_kernel (a ∷ []) = refl
no_threads_by_kernel (a ∷ b ∷ more) = refl

pub no_threads : (verb : List ℕ) (rest : List (List ℕ)) → (verb ≡ codes "run" → ⊥) → threaded_of (verb ∷ rest) ≡ None
no_threads verb rest not_run =
    test (bytes_eq (codes "asm") verb) _ _ IsNothing (λ e. no_threads_by_asm rest)
    (test (bytes_eq (codes "sched") verb) _ _ IsNothing (λ e. no_threads_by_sched Sched (λ p m s n o. refl) rest)
    (never (bytes_eq (codes "run") verb) _ _ IsNothing (not_this (codes "run") verb not_run)
    (test (bytes_eq (codes "check") verb) _ _ IsNothing (λ e. no_threads_by_check rest)
    (test (bytes_eq (codes "gen") verb) _ _ IsNothing (λ e. no_threads_by_gen rest)
    (test (bytes_eq (codes "kernel") verb) _ _ IsNothing (λ e. no_threads_by_kernel rest)
    (test (bytes_eq (codes "ksched") verb) _ _ IsNothing (λ e. no_threads_by_sched KernelSched (λ p m s n o. refl) rest) refl))))))
  where
    IsNothing : Option Command → Type 0
    IsNothing c = threaded_by c ≡ None

-- the run that the words behind `run` ask for
pub asked_threads : (words : List (List ℕ)) (machine : List ℕ) (rest : List (List ℕ)) (k : Machine) (output : Written) → 2 ≤ length words → machine ≡ get_or words 1 machine → rest ≡ drop 2 words → machine_word machine ≡ machine_as machine k → output_words rest ≡ Some (output_as output) → threaded_by (run_words words) ≡ Some (threaded_job_of (get_or words 0 []) (get_or words 1 []) (record { machine = k; output = output }))
asked_threads [] machine rest k output some at_1 behind named written = absurd (omega (arith, some))
asked_threads (a ∷ []) machine rest k output some at_1 behind named written = absurd (omega (arith, some))
asked_threads (a ∷ b ∷ more) machine rest k output some at_1 behind named written =
    by (machine_word b) (output_words more)
    (subst (λ (w : List ℕ). machine_word w ≡ machine_as w k) at_1 named)
    (subst (λ (ws : List (List ℕ)). output_words ws ≡ Some (output_as output)) behind written)
  where
    by : (m : MachineWord) (o : Option Output) → m ≡ machine_as b k → o ≡ Some (output_as output) → threaded_by (option_map (Run a m) o) ≡ Some (threaded_job_of a b (record { machine = k; output = output }))
    by m None named written = absurd (cc written)
    by m (Some w) named written = cc
