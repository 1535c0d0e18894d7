-- Words that say no datagrams are refused.
use Rattle.std.proofs.Common.{◌≡◌, ◌⊎◌, ℕ, List, Some, inl, inr, option_map, refl, rules}
use Rattle.command_files.specs.declared.fault.Fault.{Fault}
use Rattle.command_files.specs.declared.fault.Fault.TheVariants as faults
use Rattle.command_line.specs.declared.wire_words.AskedWire.{AskedWire}
use Rattle.fleet_wire.specs.declared.reading.ChoiceFault.{ChoiceFault}
use Rattle.fleet_wire.specs.declared.reading.ChoiceFault.TheVariants as choices
use Rattle.fleet_wire.specs.Reading.{IsRefused}
use Rattle.command_fleet.specs.Wires.{IsNoChoice, IsNoPlan}

-- a word that is refused says no choice, unless no memory was left
pub no_choice : (word : List ℕ) (fault : ChoiceFault) (f : Fault) → (fault ≡ choices.Memory → f ≡ faults.Memory)
    → ((fault ≡ choices.Memory → ⊥) → f ≡ faults.Wire) → (fault ≡ choices.Memory) ⊎ IsRefused fault word
    → (f ≡ faults.Memory) ⊎ ((f ≡ faults.Wire) × IsNoChoice (Some word))
no_choice word choices.Memory f memory wrong why = inl (memory refl)
no_choice word choices.NoNumber f memory wrong (inl none) = search rules
no_choice word choices.NoNumber f memory wrong (inr why) =
    inr (wrong (λ none. search rules), (choices.NoNumber, why))
no_choice word choices.OverHundred f memory wrong (inl none) = search rules
no_choice word choices.OverHundred f memory wrong (inr why) =
    inr (wrong (λ none. search rules), (choices.OverHundred, why))
no_choice word choices.OutOfOrder f memory wrong (inl none) = search rules
no_choice word choices.OutOfOrder f memory wrong (inr why) =
    inr (wrong (λ none. search rules), (choices.OutOfOrder, why))

-- so there is no plan, whichever word it is
as_wrong : (f : Fault) (A B : Type 0) → (A → B) → (f ≡ faults.Memory) ⊎ ((f ≡ faults.Wire) × A)
    → (f ≡ faults.Memory) ⊎ ((f ≡ faults.Wire) × B)
as_wrong f A B more (inl memory) = inl memory
as_wrong f A B more (inr wrong) = inr (wrong.0, more wrong.1)

pub no_lose_in : (wire : AskedWire) (f : Fault)
    → (f ≡ faults.Memory) ⊎ ((f ≡ faults.Wire) × IsNoChoice (option_map (λ w. w.now) wire.lose_in))
    → (f ≡ faults.Memory) ⊎ ((f ≡ faults.Wire) × IsNoPlan wire)
no_lose_in wire f h = as_wrong f _ _ (λ no. inl no) h

pub no_lose_out : (wire : AskedWire) (f : Fault)
    → (f ≡ faults.Memory) ⊎ ((f ≡ faults.Wire) × IsNoChoice (option_map (λ w. w.now) wire.lose_out))
    → (f ≡ faults.Memory) ⊎ ((f ≡ faults.Wire) × IsNoPlan wire)
no_lose_out wire f h = as_wrong f _ _ (λ no. inr (inl no)) h

pub no_twice : (wire : AskedWire) (f : Fault)
    → (f ≡ faults.Memory) ⊎ ((f ≡ faults.Wire) × IsNoChoice (option_map (λ w. w.now) wire.twice))
    → (f ≡ faults.Memory) ⊎ ((f ≡ faults.Wire) × IsNoPlan wire)
no_twice wire f h = as_wrong f _ _ (λ no. inr (inr (inl no))) h

pub no_swap : (wire : AskedWire) (f : Fault)
    → (f ≡ faults.Memory) ⊎ ((f ≡ faults.Wire) × IsNoChoice (option_map (λ w. w.now) wire.swap))
    → (f ≡ faults.Memory) ⊎ ((f ≡ faults.Wire) × IsNoPlan wire)
no_swap wire f h = as_wrong f _ _ (λ no. inr (inr (inr (inl no)))) h

pub no_late : (wire : AskedWire) (f : Fault)
    → (f ≡ faults.Memory) ⊎ ((f ≡ faults.Wire) × IsNoChoice (option_map (λ w. w.now) wire.late))
    → (f ≡ faults.Memory) ⊎ ((f ≡ faults.Wire) × IsNoPlan wire)
no_late wire f h = as_wrong f _ _ (λ no. inr (inr (inr (inr no)))) h
