-- Typed requests can be sent: a frame can carry their heads and their data.
use mathlib.Core.Path.{◌≡◌, refl}
use mathlib.Core.Bool.{true}
use mathlib.Core.List.{List}
use Prim.Native.Nat.{ℕ, ◌≤◌}
use native.Mathlib.Omega.{arith}
use lib.ListN.{length}
use Rattle.buffer.specs.Byte.{at, within, is_digit, Printed}
use Rattle.frames.specs.Frame.{is_letter}
use Rattle.frame_writer.specs.Sendable.{SendableV2}
use Rattle.settings.specs.declared.Key.TheVariants.{DA, DU, C1, CM, CC, FC, ST, SM}
use Rattle.requests.specs.Command.{command_text}
use Rattle.requests.specs.declared.Command.{Command}
use Rattle.requests.specs.declared.Command.TheVariants.{MV, T2, FN, FS, Of}
use Rattle.requests.specs.declared.RequestV2.{RequestV2}
use Rattle.requests.specs.declared.RequestV2.TheVariants.{Read, Restore, Set}
use Rattle.requests.specs.declared.RequestV1.{RequestV1}
use Rattle.requests.specs.declared.RequestV1.TheVariants.{Measure, ReadFactor, Unlock, SetFactor, ReadUnit, SetUnit}
use Rattle.request_texts.specs.RequestText.{access_of, command_in, head_for, data_v2, letter_v1, data_v1}
use Rattle.printed_facts.proofs.Printed.{data_v2_printed, data_v1_printed}
use Rattle.printed_facts.specs.Theorems.{DataV1Le, RequestSendableV2, RequestSendableV1}

-- ---- V2

-- the two characters of a command
command_printed : (c : Command) → (within 32 126 (at (command_text c) 0) ≡ true) × (within 32 126 (at (command_text c) 1) ≡ true)
unfolding command_text within
command_printed MV = (refl, refl)
command_printed T2 = (refl, refl)
command_printed FN = (refl, refl)
command_printed FS = (refl, refl)
command_printed (Of DA) = (refl, refl)
command_printed (Of DU) = (refl, refl)
command_printed (Of C1) = (refl, refl)
command_printed (Of CM) = (refl, refl)
command_printed (Of CC) = (refl, refl)
command_printed (Of FC) = (refl, refl)
command_printed (Of ST) = (refl, refl)
command_printed (Of SM) = (refl, refl)

access_digit : (r : RequestV2) → is_digit (access_of r) ≡ true
unfolding access_of within
access_digit (Read c) = refl
access_digit (Restore c) = refl
access_digit (Set x) = refl

-- the head of a request, with any printed data
pub head_sendable_v2 : (address : ℕ) (r : RequestV2) (s : List ℕ) → within 1 999 address ≡ true → Printed s → length s ≤ 99 → SendableV2 (head_for address r) s
unfolding head_for
head_sendable_v2 address r s a p n =
    let c = command_printed (command_in r) in
    record { address_in = a; access_in = access_digit r; first_in = c.0; second_in = c.1; bytes_in = p; few = n }

pub request_sendable_v2 : RequestSendableV2
request_sendable_v2 address r list a n = head_sendable_v2 address r (data_v2 r list) a (data_v2_printed r list) n

-- ---- V1

pub letter_in : (r : RequestV1) → is_letter (letter_v1 r) ≡ true
unfolding is_letter letter_v1 within
letter_in Measure = refl
letter_in ReadFactor = refl
letter_in Unlock = refl
letter_in (SetFactor n) = refl
letter_in ReadUnit = refl
letter_in (SetUnit u) = refl

-- a V1 request has at most six data
pub data_v1_le : DataV1Le
unfolding data_v1
data_v1_le Measure = omega arith
data_v1_le ReadFactor = omega arith
data_v1_le Unlock = omega arith
data_v1_le (SetFactor n) = omega arith
data_v1_le ReadUnit = omega arith
data_v1_le (SetUnit u) = omega arith

pub request_sendable_v1 : RequestSendableV1
request_sendable_v1 address r a = record { address_in = a; letter_in = letter_in r; bytes_in = data_v1_printed r; few = data_v1_le r }
