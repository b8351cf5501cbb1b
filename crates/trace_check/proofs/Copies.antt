-- The letters of eight cores, as looks show them, and those of a state.
use Rattle.std.proofs.Common.{◌≡◌, ℕ, zero, suc, ◌+◌, ◌-◌, ◌<◌, Bool, true, false, not, ◌&&◌, ◌||◌, ◌++◌, map, replicate, refl, sym, ◌∙◌, ap, arith, add-zero}
use Rattle.std.specs.Prelude.{slice_index_or}
use Rattle.std.specs.List.{list_all, range_with_len}
use Rattle.std.proofs.lemmas.List.Folds.{list_all-append}
use Rattle.pei_types.specs.declared.identifiers.BlockNo.{BlockNo}
use Rattle.pei_types.specs.declared.identifiers.CoreId.{CoreId}
use Rattle.pei_types.specs.declared.inflight_looks.PeiLook.{PeiLook}
use Rattle.pei_types.specs.declared.machines.MachineSpec.{MachineSpec}
use Rattle.pei_types.specs.declared.operations.Letter.{Letter}
use Rattle.pei_types.specs.declared.operations.Letter.TheVariants as letter
use Rattle.pei_types.specs.MachineState.{State, is_absent, is_ahead, is_dirty, is_i, is_owned, letter_of, letters_of, mark_of, none_has, none_owns}
use Rattle.pei_types.specs.Guard.{memory_is_current}
use Rattle.pei_types.specs.Operation.{is_writer}
use Rattle.pmu_dispatch.specs.Shown.{AreBlocksLooksOf, AreLooksOf, eight_letters}
use Rattle.pmu_dispatch.specs.declared.looks.WantLooks.{WantLooks}

letter_at : (of : CoreId → Letter) (k j n r : ℕ) → j < n → slice_index_or (map of (map (λ c. record { 0 = c }) (range_with_len k n)) ++ replicate r letter.I) j letter.I ≡ of (record { 0 = k + j })
letter_at of k j zero r below = absurd (omega arith)
letter_at of k zero (suc n) r below = rw add-zero refl
letter_at of k (suc j) (suc n) r below =
    let next : k + 1 + j ≡ k + suc j = omega arith
    in letter_at of (k + 1) j n r (omega arith) ∙ ap (λ (i : ℕ). of (record { 0 = i })) next

pub letter_shown : (m : MachineSpec) (s : State) (c : CoreId) (b : BlockNo) → c.0 < m.cores → slice_index_or (eight_letters m s b) c.0 letter.I ≡ letter_of m s c b
letter_shown m s c b within = letter_at (λ d. letter_of m s d b) 0 c.0 m.cores (8 - m.cores) within ∙ ap (λ (i : ℕ). letter_of m s (record { 0 = i }) b) (omega arith)

pub all_lacking : (test : Letter → Bool) → test letter.I ≡ true → (n : ℕ) → list_all test (replicate n letter.I) ≡ true
all_lacking test passes zero = refl
all_lacking test passes (suc n) = rw passes (all_lacking test passes n)

pub and_true : (b : Bool) → (b && true) ≡ b
and_true true = refl
and_true false = refl

all_shown : (test : Letter → Bool) → test letter.I ≡ true → (m : MachineSpec) (s : State) (b : BlockNo) → list_all test (eight_letters m s b) ≡ list_all test (letters_of m s b)
all_shown test passes m s b =
    list_all-append test (letters_of m s b) (replicate (8 - m.cores) letter.I) ∙ ap (λ t. list_all test (letters_of m s b) && t) (all_lacking test passes (8 - m.cores)) ∙ and_true (list_all test (letters_of m s b))

-- what looks at a state show
module _ (m : MachineSpec) (s : State) (looks : WantLooks) (taken : AreLooksOf m s looks) where
  pub own_letter : slice_index_or looks.letters looks.own.0 letter.I ≡ letter_of m s looks.own looks.block
  own_letter = ap (λ (l : WantLooks). slice_index_or l.letters looks.own.0 letter.I) taken.shown ∙ letter_shown m s looks.own looks.block taken.core

  pub nobody_has : list_all is_i looks.letters ≡ none_has m s looks.block
  nobody_has = ap (λ (l : WantLooks). list_all is_i l.letters) taken.shown ∙ all_shown is_i refl m s looks.block

  pub nobody_owns : list_all (λ l. not (is_owned l || is_ahead l)) looks.letters ≡ none_owns m s looks.block
  nobody_owns = ap (λ (l : WantLooks). list_all (λ x. not (is_owned x || is_ahead x)) l.letters) taken.shown ∙ all_shown (λ l. not (is_owned l || is_ahead l)) refl m s looks.block

  pub mark_shown : looks.mark ≡ mark_of m s looks.block
  mark_shown = ap (λ (l : WantLooks). l.mark) taken.shown

-- and at a PEI's block
module _ (m : MachineSpec) (s : State) (looks : WantLooks) (p : PeiLook) (are : AreBlocksLooksOf m s looks p) where
  pub pei_letter : slice_index_or looks.letters p.id.core.0 letter.I ≡ letter_of m s p.id.core p.block
  pei_letter =
      ap (λ (c : CoreId). slice_index_or looks.letters c.0 letter.I) (sym are.core) ∙ own_letter m s looks are.taken
      ∙ ap (λ (c : CoreId). letter_of m s c looks.block) are.core ∙ ap (λ (b : BlockNo). letter_of m s p.id.core b) are.block

  pub current_shown : (owns dirty writer has absent : Bool) → owns ≡ list_all (λ l. not (is_owned l || is_ahead l)) looks.letters → dirty ≡ is_dirty looks.mark → writer ≡ is_writer p.op → has ≡ list_all is_i looks.letters → absent ≡ is_absent looks.mark → (owns && not dirty && (not writer || (has && absent))) ≡ memory_is_current m s p
  current_shown owns dirty writer has absent eo ed ew eh ea =
      let mark = mark_shown m s looks are.taken ∙ ap (mark_of m s) are.block
      in ap (λ x. x && not dirty && (not writer || (has && absent))) (eo ∙ nobody_owns m s looks are.taken ∙ ap (none_owns m s) are.block)
      ∙ ap (λ x. none_owns m s p.block && not x && (not writer || (has && absent))) (ed ∙ ap is_dirty mark)
      ∙ ap (λ x. none_owns m s p.block && not (is_dirty (mark_of m s p.block)) && (not x || (has && absent))) ew
      ∙ ap (λ x. none_owns m s p.block && not (is_dirty (mark_of m s p.block)) && (not (is_writer p.op) || (x && absent))) (eh ∙ nobody_has m s looks are.taken ∙ ap (none_has m s) are.block)
      ∙ ap (λ x. none_owns m s p.block && not (is_dirty (mark_of m s p.block)) && (not (is_writer p.op) || (none_has m s p.block && x))) (ea ∙ ap is_absent mark)
