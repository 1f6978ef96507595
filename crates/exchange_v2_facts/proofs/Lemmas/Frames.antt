-- A V2 frame that is written in answer to a request is read by what its head and its data are.
use mathlib.Core.Path.{◌≡◌, refl, sym, ◌∙◌}
use mathlib.Core.Bool.{true, false, not, and-false}
use mathlib.Core.List.{List, []}
use Prim.Native.Nat.{ℕ, ◌+◌, ◌≤◌}
use native.Mathlib.Omega.{arith}
use borrow.Author.Tests.{eq-eqb}
use lib.Dec.{eqb}
use lib.ListN.{length}
use Rattle.std.specs.Prelude.{Ok}
use Rattle.buffer.specs.First.{pick}
use Rattle.buffer.specs.Byte.{at, within, is_digit, every, same_text, Printed}
use Rattle.frames.specs.Checksum.{closed}
use Rattle.frames.specs.Frame.{data_from}
use Rattle.frames.specs.declared.HeadV2.{HeadV2}
use Rattle.frames.specs.declared.Frame.TheVariants.{V2}
use Rattle.frame_writer.specs.Written.{frame_v2}
use Rattle.frame_writer.specs.Error.{error_head_v2}
use Rattle.error_texts.specs.Texts.{error_bytes}
use Rattle.error_texts.specs.declared.ErrorText.{ErrorText}
use Rattle.error_texts.specs.declared.ErrorText.TheVariants.{Length, Logic, NoDef, Syntax, Range, Error1}
use Rattle.frame_writer.specs.Sendable.{SendableV2}
use Rattle.frames_facts.proofs.ReadBack.{read_back_v2}
use Rattle.settings.specs.Limits.{ProfileLimits}
use Rattle.requests.specs.Command.{command_text}
use Rattle.requests.specs.declared.RequestV2.{RequestV2}
use Rattle.requests.specs.declared.RequestV2.TheVariants as request
use Rattle.request_texts.specs.RequestText.{access_of, command_in, head_for}
use Rattle.replies_v2_values.specs.declared.ReplyV2.TheVariants.{Error}
use Rattle.replies_v2.specs.ReplyV2.{other_access, other_command, mismatched, error_reply, data_reply, read_v2, body_reply}
use Rattle.replies_v2.proofs.Laws.{via_frame, at_frame}
use Rattle.printed_facts.proofs.Printed.{error_printed}
use Rattle.printed_facts.proofs.Fits.{error_le}
use Rattle.printed_facts.proofs.Sendable.{head_sendable_v2}
use Rattle.gauge_rules.specs.RulesV2.{answer_code}
use Rattle.gauge_table.specs.Reply.{answer_head}
use Rattle.gauge_table.proofs.Sendable.{code_digit, answer_sendable}

-- a written frame, with the address that was asked, is read by its head and its data
pub by_head : (limits : ProfileLimits) (a : ℕ) (r : RequestV2) (h : HeadV2) (s : List ℕ) → h.address ≡ a → SendableV2 h s → (read_v2 limits a r (frame_v2 h s) ≡ body_reply limits r h s) × (data_from 8 (frame_v2 h s) ≡ s)
unfolding frame_v2 closed via_frame pick
by_head limits a r h s e ok =
    let w = read_back_v2 h s ok in
    let v : via_frame limits a r (frame_v2 h s) (Ok (V2 h)) ≡ body_reply limits r h s = rw (w.rest, eq-eqb h.address a e) in
    (sym (at_frame limits a r (frame_v2 h s) (Ok (V2 h)) ok.access_in w.head) ∙ v, w.rest)

-- ---- heads

-- a reply with the request's address and command can be sent
sendable : (a : ℕ) (r : RequestV2) (code : ℕ) (s : List ℕ) → within 1 999 a ≡ true → is_digit code ≡ true → Printed s → length s ≤ 99 → SendableV2 (answer_head (head_for a r) code) s
unfolding every
sendable a r code s i d p l = answer_sendable (head_for a r) code s (head_sendable_v2 a r [] i refl (omega arith)) d p l

-- the command is the one that was asked
same_command : (a : ℕ) (r : RequestV2) (code : ℕ) → other_command r (answer_head (head_for a r) code) ≡ false
unfolding other_command head_for
same_command a r code =
    rw (eq-eqb (at (command_text (command_in r)) 0) (at (command_text (command_in r)) 0) refl, eq-eqb (at (command_text (command_in r)) 1) (at (command_text (command_in r)) 1) refl)

-- ---- replies to accepted requests

-- "read 0 is answered by 1, write 2 by 3, factory default 4 by 5"
answer_code_lem : (r : RequestV2) → (other_access r (answer_code r) ≡ false) × (eqb (answer_code r) 55 ≡ false)
unfolding answer_code access_of other_access
answer_code_lem (request.Read c) = (refl, refl)
answer_code_lem (request.Restore c) = (refl, refl)
answer_code_lem (request.Set x) = (refl, refl)

pub accepted_read : (limits : ProfileLimits) (a : ℕ) (r : RequestV2) (s : List ℕ) → within 1 999 a ≡ true → Printed s → length s ≤ 99
    → (read_v2 limits a r (frame_v2 (answer_head (head_for a r) (answer_code r)) s) ≡ data_reply limits r s) × (data_from 8 (frame_v2 (answer_head (head_for a r) (answer_code r)) s) ≡ s)
unfolding head_for body_reply mismatched pick
accepted_read limits a r s i p l =
    let c = answer_code_lem r in
    let h = by_head limits a r (answer_head (head_for a r) (answer_code r)) s refl (sendable a r (answer_code r) s i (code_digit r) p l) in
    let m = same_command a r (answer_code r) in
    (h.0 ∙ rw (c.0, m, c.1), h.1)

-- ---- replies to refused requests

error_text_lem : (e : ErrorText) → error_reply (error_bytes e) ≡ Ok (Error e)
unfolding error_reply error_bytes pick same_text
error_text_lem Length = refl
error_text_lem Logic = refl
error_text_lem NoDef = refl
error_text_lem Syntax = refl
error_text_lem Range = refl
error_text_lem Error1 = refl

error_code_lem : (r : RequestV2) → other_access r 55 ≡ false
unfolding other_access
error_code_lem r = and-false (not (eqb 55 (access_of r + 1)))

pub error_read : (limits : ProfileLimits) (a : ℕ) (r : RequestV2) (e : ErrorText) → within 1 999 a ≡ true → read_v2 limits a r (frame_v2 (error_head_v2 (head_for a r)) (error_bytes e)) ≡ Ok (Error e)
unfolding head_for error_head_v2 body_reply mismatched pick within
error_read limits a r e i =
    let h = by_head limits a r (answer_head (head_for a r) 55) (error_bytes e) refl (sendable a r 55 (error_bytes e) i refl (error_printed e) (omega (arith, error_le e))) in
    let m = same_command a r 55 in
    h.0 ∙ rw (error_code_lem r, m) (error_text_lem e)
