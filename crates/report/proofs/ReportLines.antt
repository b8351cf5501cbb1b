-- The lines of a report, part by part.
use Rattle.std.proofs.Common.{◌≡◌, ℕ, ◌+◌, ◌*◌, ◌%◌, ◌^◌, ◌<◌, List, [], ◌∷◌, ◌++◌, length, get_or, map, flat_map, filter_map, sum, Option, codes, decimal, refl, sym, ◌∙◌, ap, arith}
use Rattle.std.proofs.Math.Nat.{mod-add-mod}
use Rattle.std.proofs.lemmas.List.Elements.{filter-append, filter_map-append}
use Rattle.std.proofs.lemmas.List.FromFn.{get_or-map-range_with_len, length-map-range_with_len, map-range_with_len_more}
use Rattle.std.proofs.lemmas.Grind.{flat_map-append, common_steps}
use Rattle.pei_types.specs.declared.identifiers.CoreId.{CoreId}
use Rattle.pei_types.specs.declared.calls.EndKind.{EndKind}
use Rattle.pei_types.specs.declared.events.Event.{Event}
use Rattle.pei_types.specs.declared.machines.MachineSpec.{MachineSpec}
use Rattle.pei_types.specs.Blocks.{same_core}
use Rattle.pei_types.specs.MachineState.{cores_of}
use Rattle.pei_types.specs.Core.{events_of}
use Rattle.pei_types.specs.Ends.{end_of, ends_of, output_in, outputs_of}
use Rattle.pei_types.specs.Texts.{line, how_ended, core_lines, output_lines, addresses}
use Rattle.report.specs.Shown.{output_lines_of}

-- ---- the outputs of a core

-- the line of an event, if it is an output of this core
abbrev pub event_lines : CoreId → Event → List ℕ
event_lines c e = output_lines_of c (e ∷ [])

outputs_split : (c : CoreId) (e : Event) (rest : List Event) → output_lines_of c (e ∷ rest) ≡ output_lines_of c (e ∷ []) ++ output_lines_of c rest
outputs_split c e rest =
    ap (λ es. output_lines c (filter_map (λ x. output_in x.kind) es)) (filter-append (λ (x : Event). same_core x.actor.core c) (e ∷ []) rest)
    ∙ ap (output_lines c) (filter_map-append (λ (x : Event). output_in x.kind) (events_of c (e ∷ [])) (events_of c rest))
    ∙ flat_map-append (λ v. line (codes "out" ∷ decimal c.0 ∷ decimal v ∷ [])) (outputs_of (e ∷ []) c) (outputs_of rest c)

-- they are told event by event
pub outputs_by_event : (c : CoreId) (journal : List Event) → flat_map (event_lines c) journal ≡ output_lines_of c journal
outputs_by_event c [] = refl
outputs_by_event c (e ∷ rest) = ap (λ t. event_lines c e ++ t) (outputs_by_event c rest) ∙ sym (outputs_split c e rest)

-- ---- the cores

pub cores_count : (m : MachineSpec) → length (cores_of m) ≡ m.cores
cores_count m = length-map-range_with_len (λ k. record { 0 = k }) 0 m.cores

pub core_at : (m : MachineSpec) (k : ℕ) → k < m.cores → get_or (cores_of m) k (record { 0 = k }) ≡ record { 0 = k }
core_at m k h = get_or-map-range_with_len (λ i. record { 0 = i }) 0 m.cores k k (record { 0 = k }) h (omega arith)

end_at : (journal : List Event) (ends : List (Option EndKind)) (k : ℕ) (d : Option EndKind) → ends ≡ ends_of journal → k < 8 → get_or ends k d ≡ end_of journal (record { 0 = k })
end_at journal ends k d same h = ap (λ xs. get_or xs k d) same ∙ get_or-map-range_with_len (λ c. end_of journal (record { 0 = c })) 0 8 k k d h (omega arith)

-- the lines of a core, by its end in the table
pub lines_of_core : (journal : List Event) (ends : List (Option EndKind)) (k : ℕ) (d : Option EndKind) → ends ≡ ends_of journal → k < 8 → output_lines_of (record { 0 = k }) journal ++ line (codes "core" ∷ decimal k ∷ how_ended (get_or ends k d)) ≡ core_lines journal (record { 0 = k })
lines_of_core journal ends k d same h = ap (λ o. output_lines_of (record { 0 = k }) journal ++ line (codes "core" ∷ decimal k ∷ how_ended o)) (end_at journal ends k d same h)

-- ---- addresses

pub addresses_count : (addr count : ℕ) → length (addresses addr count) ≡ count
addresses_count addr count = length-map-range_with_len (λ i. addr + 8 * i) 0 count

pub address_at : (addr count i d : ℕ) → i < count → get_or (addresses addr count) i d ≡ addr + 8 * i
address_at addr count i d h = get_or-map-range_with_len (λ k. addr + 8 * k) 0 count i i d h (omega arith)

sum_more : (word : ℕ → ℕ) (addr i : ℕ) → sum (map word (addresses addr (i + 1))) ≡ sum (map word (addresses addr i)) + word (addr + 8 * i)
sum_more word addr i =
    ap (λ xs. sum (map word xs)) (map-range_with_len_more (λ k. addr + 8 * k) 0 i i (omega arith))
    ∙ grind (arith, common_steps)

-- a sum has one word more
pub sum_on : (word : ℕ → ℕ) (addr i total next : ℕ) → total ≡ sum (map word (addresses addr i)) % 2 ^ 64 → next ≡ (total + word (addr + 8 * i)) % 2 ^ 64 → next ≡ sum (map word (addresses addr (i + 1))) % 2 ^ 64
sum_on word addr i total next so_far added =
    added
    ∙ ap (λ t. (t + word (addr + 8 * i)) % 2 ^ 64) so_far
    ∙ mod-add-mod (sum (map word (addresses addr i))) (2 ^ 64) (word (addr + 8 * i))
    ∙ ap (λ t. t % 2 ^ 64) (sym (sum_more word addr i))

-- the line of a word, by its value
pub line_of_word : (addr value seen : ℕ) → value ≡ seen → line (codes "mem" ∷ decimal addr ∷ decimal value ∷ []) ≡ line (codes "mem" ∷ decimal addr ∷ decimal seen ∷ [])
line_of_word addr value seen same = ap (λ v. line (codes "mem" ∷ decimal addr ∷ decimal v ∷ [])) same
