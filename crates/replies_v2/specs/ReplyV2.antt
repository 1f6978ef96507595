-- Document 01, "The master's side": any bytes read as the reply to a V2 request, or the first refusal that applies.
use Rattle.std.specs.Prelude.{Bool, not, ◌&&◌, ◌||◌, List, [], ◌∷◌, ◌++◌, map, ℕ, ◌+◌, eqb, length, Err, Ok, Result}
use Rattle.buffer.specs.First.{◌⇒◌, first}
use Rattle.buffer.specs.Byte.{at, is_digit, same_text}
use Rattle.decimal_text.specs.Written.{written_of, two_decimals}
use Rattle.frames.specs.Frame.{data_from, misshapen, wrong_sum, wrong_address, wrong_length, head_v2}
use Rattle.frames.specs.declared.HeadV2.{HeadV2}
use Rattle.error_texts.specs.Texts.{error_bytes}
use Rattle.error_texts.specs.declared.ErrorText.{ErrorText}
use Rattle.error_texts.specs.declared.ErrorText.TheVariants as error
use Rattle.sources.specs.Beside.{Beside}
use Rattle.sources.specs.declared.WithSources.{WithSources}
use Rattle.settings.specs.Limits.{ProfileLimits}
use Rattle.requests.specs.Command.{command_text}
use Rattle.requests.specs.declared.RequestV2.{RequestV2}
use Rattle.requests.specs.declared.RequestV2.TheVariants as request
use Rattle.request_texts.specs.RequestText.{access_of, command_in, data_v2}
use Rattle.replies_v2_values.specs.Value.{value_reply, value_list}
use Rattle.replies_v2_values.specs.declared.ReplyV2.{ReplyV2}
use Rattle.replies_v2_values.specs.declared.ReplyV2.TheVariants.{Measured, UnderRange, OverRange, Degrees, FilamentNumber, StatusNumber, Holds, Done, Error}
use Rattle.refusals.specs.Number.{refusal_number}
use Rattle.refusals.specs.declared.Refusal.{Refusal}

-- "2 (V1 frames too)": bytes that are of no frame's shape, or whose byte 3 is no digit
unfoldable pub not_v2 : List ℕ → Bool
not_v2 s = not (is_digit (at s 3)) || misshapen s

-- "any refused V2 request by 7", as a character
abbrev pub error_code : ℕ
error_code = 55

-- "access neither request plus 1 nor 7"
unfoldable pub other_access : RequestV2 → ℕ → Bool
other_access r access = not (eqb access (access_of r + 1)) && not (eqb access error_code)

-- "or another command"
unfoldable pub other_command : RequestV2 → HeadV2 → Bool
other_command r h =
    let name = command_text (command_in r) in
    not (eqb h.first (at name 0)) || not (eqb h.second (at name 1))

unfoldable pub mismatched : RequestV2 → HeadV2 → Bool
mismatched r h = other_access r h.access || other_command r h

-- the table's six error texts
abbrev pub errors : List ErrorText
errors = error.Length ∷ error.Logic ∷ error.NoDef ∷ error.Syntax ∷ error.Range ∷ error.Error1 ∷ []

-- "With access 7 the data is one of the table's six error texts and the answer is that error; any other data is 10."
unfoldable pub error_reply : List ℕ → Result ReplyV2 Refusal
error_reply s = first (map (λ (e : ErrorText). same_text s (error_bytes e) ⇒ Ok (Error e)) errors) (Err Refusal.Syntax)

-- "Write and default replies carry no data."
unfoldable pub done_reply : List ℕ → Result ReplyV2 Refusal
done_reply s = first (not (eqb (length s) 0) ⇒ Err Refusal.Syntax ∷ []) (Ok Done)

unfoldable pub data_reply : ProfileLimits → RequestV2 → List ℕ → Result ReplyV2 Refusal
data_reply limits (request.Read c) s = value_reply limits c s
data_reply limits (request.Restore c) s = done_reply s
data_reply limits (request.Set x) s = done_reply s

-- a head and its data: "14 (access neither request plus 1 nor 7, or another command), 10, 11", and 12 for SM's list
unfoldable pub body_reply : ProfileLimits → RequestV2 → HeadV2 → List ℕ → Result ReplyV2 Refusal
body_reply limits r h s =
    first
    (mismatched r h ⇒ Err Refusal.Mismatch
    ∷ eqb h.access error_code ⇒ error_reply s
    ∷ [])
    (data_reply limits r s)

-- any bytes: "in the order 2 (V1 frames too), 3, 4, 5, 6", and then 14, 10, 11 and 12
unfoldable pub read_v2 : ProfileLimits → ℕ → RequestV2 → List ℕ → Result ReplyV2 Refusal
read_v2 limits address r s =
    first
    (not_v2 s ⇒ Err Refusal.Shape
    ∷ wrong_sum s ⇒ Err Refusal.Checksum
    ∷ wrong_address s ⇒ Err Refusal.Address
    ∷ not (eqb (head_v2 s).address address) ⇒ Err Refusal.Other
    ∷ wrong_length s ⇒ Err Refusal.Length
    ∷ [])
    (body_reply limits r (head_v2 s) (data_from 8 s))

-- the sources of a read of SM stand beside its accepted value, and beside nothing else
unfoldable pub beside : Result ReplyV2 Refusal → List ℕ → List ℕ
beside (Ok (Measured n)) list = []
beside (Ok UnderRange) list = []
beside (Ok OverRange) list = []
beside (Ok (Degrees negative h)) list = []
beside (Ok (FilamentNumber d)) list = []
beside (Ok (StatusNumber d)) list = []
beside (Ok (Holds x)) list = list
beside (Ok Done) list = []
beside (Ok (Error e)) list = []
beside (Err k) list = []

unfoldable pub data_list : ProfileLimits → RequestV2 → List ℕ → List ℕ
data_list limits (request.Read c) s = value_list limits c s
data_list limits (request.Restore c) s = []
data_list limits (request.Set x) s = []

unfoldable pub read_list : ProfileLimits → ℕ → RequestV2 → List ℕ → List ℕ
read_list limits address r s = beside (read_v2 limits address r s) (data_list limits r (data_from 8 s))

abbrev pub ReadsV2 : ProfileLimits → ℕ → RequestV2 → List ℕ → WithSources (Result ReplyV2 Refusal) → Type 0
ReadsV2 limits address r s a = Beside (read_v2 limits address r s) (read_list limits address r s) a

-- ---- the same for the data alone, and for a head and its data

abbrev pub DataReads : ProfileLimits → RequestV2 → List ℕ → WithSources (Result ReplyV2 Refusal) → Type 0
DataReads limits r s a = Beside (data_reply limits r s) (data_list limits r s) a

abbrev pub BodyReads : ProfileLimits → RequestV2 → HeadV2 → List ℕ → WithSources (Result ReplyV2 Refusal) → Type 0
BodyReads limits r h s a = Beside (body_reply limits r h s) (beside (body_reply limits r h s) (data_list limits r s)) a

-- ---- answers

-- document 01's number and values for each answer: a refusal's number; or 0, the kind (1 a number of MV, 2 `UR`, 3 `OR`, 4 a temperature,
-- 5 FN, 6 FS, 7 a setting, 8 a done, 9 an error) and the value: a digit, a setting's command and text, or a text, as they are sent
unfoldable pub read_shown_v2 : Result ReplyV2 Refusal → List ℕ
read_shown_v2 (Err k) = refusal_number k ∷ []
read_shown_v2 (Ok (Measured n)) = 0 ∷ 1 ∷ written_of n
read_shown_v2 (Ok UnderRange) = 0 ∷ 2 ∷ []
read_shown_v2 (Ok OverRange) = 0 ∷ 3 ∷ []
read_shown_v2 (Ok (Degrees negative h)) = 0 ∷ 4 ∷ two_decimals negative h
read_shown_v2 (Ok (FilamentNumber d)) = 0 ∷ 5 ∷ d ∷ []
read_shown_v2 (Ok (StatusNumber d)) = 0 ∷ 6 ∷ d ∷ []
read_shown_v2 (Ok (Holds x)) = 0 ∷ 7 ∷ command_text (command_in (request.Set x)) ++ data_v2 (request.Set x) []
read_shown_v2 (Ok Done) = 0 ∷ 8 ∷ []
read_shown_v2 (Ok (Error e)) = 0 ∷ 9 ∷ error_bytes e
