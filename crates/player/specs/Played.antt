-- What playing a script promises: the calls that were made are the script's, each answered as the rules fix it, and the claim on sequences holds
-- of them, for both gauges.
use Rattle.std.specs.Prelude.{◌≡◌, List, [], ◌∷◌, ◌++◌, ℕ, zero, suc, ◌+◌, min, ltb, length, take, drop, None, Option, Some}
use Rattle.std.proofs.lemmas.List.Edits.{sets}
use Rattle.buffer.specs.First.{◌⇒◌, first}
use Rattle.buffer.specs.Answer.{Answer, over}
use Rattle.sources.specs.declared.Profile.{Profile}
use Rattle.settings.specs.Limits.{limits_of}
use Rattle.readings.specs.Bench.{bench_number}
use Rattle.readings.specs.declared.Bench.{Bench}
use Rattle.line.specs.Line.{line_answer}
use Rattle.gauge_rules.specs.BenchIn.{bench_in}
use Rattle.gauge_table.specs.After as text-answers
use Rattle.opg_gauge.specs.State.{benched}
use Rattle.opg_gauge.specs.declared.Pressure.{Pressure}
use Rattle.opg_answer.specs.Reply as opg-answers
use Rattle.sequence_facts.specs.Sequence as text
use Rattle.opg_sequence_facts.specs.Model.{gauge_of}
use Rattle.opg_sequence_facts.specs.Sequence as opg
use Rattle.script.specs.Script.{call_at, room_of}
use Rattle.script.specs.declared.To.{To}
use Rattle.script.specs.declared.To.TheVariants.{Text, Opg}
use Rattle.script.specs.declared.Call.{Call}
use Rattle.script.specs.declared.Call.TheVariants.{Request, Line, SetBench, SetOpgBench}
use Rattle.player.specs.declared.Gauges.{Gauges}

-- ---- calls

-- one call and its answer: a request to one of the gauges, the text gauge's stream line, a bench setting of the text gauge, one of the OPG
pub data Exchange : Type 0 where
  asked : (to : To) (s before : List ℕ) (number len : ℕ) (after : List ℕ) → Exchange
  lined : (before : List ℕ) (number len : ℕ) (after : List ℕ) → Exchange
  bench_set : (b : Bench) (number : ℕ) → Exchange
  opg_bench_set : (p : Pressure) (number : ℕ) → Exchange

-- the calls that were made, the latest first
abbrev pub History : Type 0
History = List Exchange

-- those of the text gauge, and those of the OPG
abbrev pub texts : History → text.History
texts [] = []
texts (asked Text s before number len after ∷ h) = text.asked s before number len after ∷ texts h
texts (asked Opg s before number len after ∷ h) = texts h
texts (lined before number len after ∷ h) = text.lined before number len after ∷ texts h
texts (bench_set b number ∷ h) = text.bench_set b number ∷ texts h
texts (opg_bench_set p number ∷ h) = texts h

abbrev pub opgs : History → opg.History
opgs [] = []
opgs (asked Text s before number len after ∷ h) = opgs h
opgs (asked Opg s before number len after ∷ h) = opg.asked s before number len after ∷ opgs h
opgs (lined before number len after ∷ h) = opgs h
opgs (bench_set b number ∷ h) = opgs h
opgs (opg_bench_set p number ∷ h) = opg.bench_set p number ∷ opgs h

-- an answer's number, and its reply's length: a bench setting has no reply
abbrev pub answered_number : Exchange → ℕ
answered_number (asked to s before number len after) = number
answered_number (lined before number len after) = number
answered_number (bench_set b number) = number
answered_number (opg_bench_set p number) = number

abbrev pub length_of : Exchange → ℕ
length_of (asked to s before number len after) = len
length_of (lined before number len after) = len
length_of (bench_set b number) = 0
length_of (opg_bench_set p number) = 0

-- what f gives for each exchange, in the order of the calls
abbrev pub in_order : {A : Type 0} → (Exchange → A) → History → List A
in_order f [] = []
in_order f (e ∷ h) = in_order f h ++ f e ∷ []

-- ---- the answers that the rules fix for a text gauge of this profile and an OPG, from the reference models of the calls before

abbrev pub answer_to : Profile → To → History → ℕ → List ℕ → Answer
answer_to profile Text h room s = text-answers.answer_of (text.model (limits_of profile) (texts h)) room s
answer_to profile Opg h room s = opg-answers.answer_of room (gauge_of (opg.model (opgs h))) s

abbrev pub line_for : Profile → History → ℕ → Answer
line_for profile h room =
    let m = text.model (limits_of profile) (texts h) in
    line_answer m.limits room m.settings m.readings

abbrev pub bench_number_for : Profile → History → Bench → ℕ
bench_number_for profile h b = bench_number (bench_in (text.model (limits_of profile) (texts h)).limits b)

abbrev pub opg_bench_number : History → Pressure → ℕ
opg_bench_number h q = (benched (gauge_of (opg.model (opgs h))) q).number

-- ---- the play of a script

-- what stands after some calls: the history, where the next call begins, where the memory not yet lent begins, and the memory
pub record Standing : Type 0 where
  pub history : History
  pub at : ℕ
  pub used : ℕ
  pub memory : List ℕ

-- the next bytes of the memory, for one call
abbrev pub lent : Standing → ℕ → List ℕ
lent p room = take room (drop p.used p.memory)

-- a call with this answer was made with them, and its reply stands in the memory from there on. The next call begins at a place of the script
abbrev pub answered : Standing → ℕ → Answer → Exchange → ℕ → Standing
answered p room a e at = record { history = e ∷ p.history; at = at; used = p.used + room; memory = sets p.memory p.used a.reply }

-- the call that stands next is made, and answered by the rules
unfoldable pub made : Profile → List ℕ → Standing → Option Call → Standing
made profile script p (Some (Request to room len)) =
    let s = take len (drop (p.at + 5) script) in
    let a = answer_to profile to p.history (length (lent p room)) s in
    answered p room a (asked to s (lent p room) a.number (length a.reply) (over a.reply (lent p room))) (p.at + 5 + len)
made profile script p (Some (Line room)) =
    let a = line_for profile p.history (length (lent p room)) in
    answered p room a (lined (lent p room) a.number (length a.reply) (over a.reply (lent p room))) (p.at + 3)
made profile script p (Some (SetBench b)) = record { history = bench_set b (bench_number_for profile p.history b) ∷ p.history; at = p.at + 10; used = p.used; memory = p.memory }
made profile script p (Some (SetOpgBench q)) = record { history = opg_bench_set q (opg_bench_number p.history q) ∷ p.history; at = p.at + 6; used = p.used; memory = p.memory }
made profile script p None = p

-- one call more, unless no whole call stands next, or the memory left is too small for it
unfoldable pub advance : Profile → List ℕ → Standing → Standing
advance profile script p =
    let k = call_at script p.at in
    first (ltb (length p.memory) (p.used + room_of k) ⇒ p ∷ []) (made profile script p k)

unfoldable pub play_of : Profile → ℕ → List ℕ → Standing → Standing
play_of profile zero script p = p
play_of profile (suc n) script p = advance profile script (play_of profile n script p)

-- before the first call
abbrev pub beginning : List ℕ → Standing
beginning memory = record { history = []; at = 0; used = 0; memory = memory }

-- ---- what the player promises

-- the claim on sequences of calls, for each gauge and the calls that it had; the text gauge is of this profile
pub record Claims (profile : Profile) (h : History) (g : Gauges) : Type 0 where
  pub of_text_gauge : text.Claim (limits_of profile) (texts h) g.text
  pub of_its_profile : text.OfProfile profile g.text
  pub of_opg_gauge : opg.Claim (opgs h) g.opg

-- as many calls as there are places for their answers, as far as the script and the memory go
abbrev pub ends : Profile → (script memory numbers lens : List ℕ) → Standing
ends profile script memory numbers lens = play_of profile (min (length numbers) (length lens)) script (beginning memory)

-- The memory is what these calls left; the numbers and lengths of their answers stand in order at the front of `numbers` and `lens`, which are
-- otherwise as they were; and the claim on sequences holds of these calls and the gauges.
pub record Ran (profile : Profile) (script memory numbers lens : List ℕ) (gauges : Gauges) (calls : ℕ) (memory' numbers' lens' : List ℕ) : Type 0 where
  pub calls_are : calls ≡ length (ends profile script memory numbers lens).history
  pub memory_is : memory' ≡ (ends profile script memory numbers lens).memory
  pub numbers_are : numbers' ≡ in_order answered_number (ends profile script memory numbers lens).history ++ drop calls numbers
  pub lengths_are : lens' ≡ in_order length_of (ends profile script memory numbers lens).history ++ drop calls lens
  pub claims : Claims profile (ends profile script memory numbers lens).history gauges
