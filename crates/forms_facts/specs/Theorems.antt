-- What is proved here, each statement as a type; proofs/ has the proofs.
use Rattle.std.specs.Prelude.{◌≡◌, List, [], ◌∷◌, map, ◌↔◌, Bool, true, false, ℕ, ◌+◌, ◌<◌, ◌≤◌, length, drop, Err, Ok}
use Rattle.sources.specs.declared.Profile.{Profile}
use Rattle.settings.specs.Limits.{ProfileLimits, limits_of}
use Rattle.settings.specs.Settings.{key_of, factory, Held, put_of, restore_of}
use Rattle.settings.specs.declared.Key.{Key}
use Rattle.settings.specs.declared.Setting.{Setting}
use Rattle.forms.specs.Judged.{verdict_of, list_in}
use Rattle.forms.specs.Forms.{digit_data, stream_data}
use Rattle.sources.specs.Source.{among, most_entries, is_source, list_text}
use Rattle.sources.specs.Entries.{entries_list}
use Rattle.sources.specs.Theorems.{RepeatOrZero}
use Rattle.settings.specs.Sent.{stream_text, read_text}
use Rattle.settings.specs.declared.Setting.TheVariants.{Stream}
use Rattle.settings.specs.declared.Key.TheVariants.{ST, SM}
use Rattle.buffer.specs.Byte.{is_digit, every}
use Rattle.forms_facts.specs.Sound.{Sound, SoundSettings, Proper, setting_in}
use Rattle.forms_facts.specs.Form.{Form, FormWith}
use Rattle.forms_facts.specs.Codes.{GoodList, entries_text, is_known_text}
use Rattle.forms_facts.specs.Examples.{right, cases, well, sends, numbers_of, profiled, printed_numbers}
use Rattle.refusals.specs.declared.Refusal.{Refusal}

-- the column "Data": data are accepted as a setting exactly where it is the command's, the text has its form, and it is within the limits
abbrev pub AcceptedExactly : Type 0
AcceptedExactly = (limits : ProfileLimits) → Proper limits → (key : Key) (s : List ℕ) (x : Setting) → (verdict_of limits key s ≡ Ok x) ↔ ((key_of x ≡ key) × Form limits s x × Sound limits x)

-- data are accepted as a setting with a list of sources exactly where it is the command's, the text has the form of the two, and both are
-- within the limits: each source of the list is known and stands once, and none is `0`
abbrev pub AcceptedWithList : Type 0
AcceptedWithList = (limits : ProfileLimits) → Proper limits → (key : Key) (s : List ℕ) (x : Setting) (list : List ℕ)
    → ((verdict_of limits key s ≡ Ok x) × (list_in limits key s ≡ list)) ↔ ((key_of x ≡ key) × FormWith limits s x list × Sound limits x × GoodList limits.source_codes list)

-- "One-digit settings": exactly the digits up to the largest are accepted
abbrev pub DigitExactly : Type 0
DigitExactly = (most : ℕ) (s : List ℕ) (d : ℕ) → (digit_data most s ≡ Ok d) ↔ ((s ≡ (d + 48) ∷ []) × (d ≤ most) × (d < 10))

-- "any other digit is RANGE"
abbrev pub DigitRange : Type 0
DigitRange = (most : ℕ) (s : List ℕ) → (digit_data most s ≡ Err Refusal.Range) ↔ ((d : ℕ) × (s ≡ (d + 48) ∷ []) × (most < d) × (d < 10))

-- "anything else SYNTAX"
abbrev pub DigitSyntax : Type 0
DigitSyntax = (most : ℕ) (s : List ℕ) → (digit_data most s ≡ Err Refusal.Syntax) ↔ ((d : ℕ) → d < 10 → s ≡ (d + 48) ∷ [] → ⊥)

-- what is accepted is within the limits
abbrev pub AcceptedSound : Type 0
AcceptedSound = (limits : ProfileLimits) (key : Key) (s : List ℕ) (x : Setting) → verdict_of limits key s ≡ Ok x → Sound limits x

-- an accepted list is good
abbrev pub AcceptedList : Type 0
AcceptedList = (limits : ProfileLimits) (key : Key) (s : List ℕ) → GoodList limits.source_codes (list_in limits key s)

-- "at most six entries can pass": each of the profile's sources but `0`, once
abbrev pub AtMostEntries : Type 0
AtMostEntries = (limits : ProfileLimits) → Proper limits → (list : List ℕ) → GoodList limits.source_codes list → length list ≤ most_entries limits.source_codes

-- "a repeat or a listed `0` is 12 LOGIC, after RANGE": SM is refused with 12 exactly where the mode is `4`, each source is known, and one stands
-- twice or is `0`
abbrev pub LogicExactly : Type 0
LogicExactly = (limits : ProfileLimits) → Proper limits → (s : List ℕ) → (verdict_of limits SM s ≡ Err Refusal.Logic) ↔ ((list : List ℕ) × (s ≡ 52 ∷ list_text list) × (every (among limits.source_codes) list ≡ true) × RepeatOrZero list)

-- "LOGIC unless a source in it is unknown"; "other one-digit modes (list or none) are RANGE": SM is refused with 11 exactly where a digit stands
-- before entries of the form, however many they are, and the digit is another mode or, after `4`, a source is unknown
abbrev pub RangeExactly : Type 0
RangeExactly = (limits : ProfileLimits) (s : List ℕ) → (verdict_of limits SM s ≡ Err Refusal.Range)
    ↔ ((m : ℕ) × (ts : List (List ℕ)) × (s ≡ m ∷ entries_text ts) × (is_digit m ≡ true) × (every is_source ts ≡ true) × (m ≡ 48 → ⊥) × (m ≡ 52 → every (is_known_text limits.source_codes) ts ≡ false))

-- "any longer list of known sources holds a repeat or a `0`": it is refused with 12, however long it is
abbrev pub LongerLogic : Type 0
LongerLogic = (limits : ProfileLimits) → Proper limits → (list : List ℕ) → every (among limits.source_codes) list ≡ true → most_entries limits.source_codes < length list → verdict_of limits SM (52 ∷ list_text list) ≡ Err Refusal.Logic

-- VSH and VSM "accept only the `D` form of ST": "an `F` form on these profiles is 10 SYNTAX", whatever follows
abbrev pub NoBetween : Type 0
NoBetween = (limits : ProfileLimits) (s : List ℕ) → limits.between_form ≡ false → verdict_of limits ST (70 ∷ s) ≡ Err Refusal.Syntax

-- the limits of each profile are proper ones
abbrev pub AllProper : Type 0
AllProper = (p : Profile) → Proper (limits_of p)

-- settings stay within the limits: a gauge starts so
abbrev pub FactorySound : Type 0
FactorySound = (limits : ProfileLimits) → Proper limits → SoundSettings limits (factory limits)

-- an accepted write keeps them there
abbrev pub WriteSound : Type 0
WriteSound = (limits : ProfileLimits) (key : Key) (t : List ℕ) (x : Setting) (s : Held) → SoundSettings limits s → verdict_of limits key t ≡ Ok x → SoundSettings limits (put_of s x (list_in limits key t))

-- and so does a restore
abbrev pub RestoreSound : Type 0
RestoreSound = (limits : ProfileLimits) → Proper limits → (key : Key) (s : Held) → SoundSettings limits s → SoundSettings limits (restore_of limits s key)

-- SM: "a read sends the text as accepted"
abbrev pub SentAsAccepted : Type 0
SentAsAccepted = (limits : ProfileLimits) (s : List ℕ) (on : Bool) → stream_data limits s ≡ Ok (Stream on) → stream_text on (entries_list limits.source_codes (drop 1 s)) ≡ s

-- what a read sends is accepted as the value that was read
abbrev pub ReadAgain : Type 0
ReadAgain = (limits : ProfileLimits) → Proper limits → (key : Key) (s : Held) → SoundSettings limits s → verdict_of limits key (read_text key s) ≡ Ok (setting_in key s)

-- and, while lines are sent, with the same list
abbrev pub ListReadAgain : Type 0
ListReadAgain = (limits : ProfileLimits) → Proper limits → (s : Held) → SoundSettings limits s → s.streaming ≡ true → list_in limits SM (read_text SM s) ≡ s.list

-- the worked cases: each text has the paper's answer
abbrev pub AllRight : Type 0
AllRight = every right cases ≡ true

-- and each write is then read as the paper says
abbrev pub AllSent : Type 0
AllSent = every well sends ≡ true

-- on VSH, on VSM and on the third profile each text has the papers' answer
abbrev pub AllProfiles : Type 0
AllProfiles = map numbers_of profiled ≡ map printed_numbers profiled
