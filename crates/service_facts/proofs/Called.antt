-- What the contracts of `serve` and `keep` give together: one delivery.
use mathlib.Core.Path.{◌≡◌, sym, ap, ◌∙◌}
use mathlib.Core.List.{List}
use Prim.Native.Nat.{ℕ}
use lib.ListN.{length, take, drop}
use lib.Seq.{take_at}
use Rattle.buffer.specs.Answer.{over}
use Rattle.service.specs.Split.{frames_of}
use Rattle.service.specs.Served.{Service, most_kept, kept_of}
use Rattle.service_facts.specs.Theorems.{CalledWhole, KeptFront}
use Rattle.service_facts.proofs.Cut.{after_frames}
use Rattle.service_facts.proofs.Room.{enough_room}

-- bytes stored at the front are what the front then holds
pub over_front : (bytes memory after : List ℕ) (n : ℕ) → after ≡ over bytes memory → n ≡ length bytes → take n after ≡ bytes
unfolding over
over_front bytes memory after n e l = ap (take n) e ∙ take_at bytes (drop (length bytes) memory) n (sym l)

-- a call of `serve` with memory enough
pub called : CalledWhole
called g input before after r s h =
    let e = enough_room g (length before) (frames_of input) h in
    record {
      state = s.state ∙ ap (λ (x : Service). x.state) e;
      replies = over_front _ before after r.len s.memory s.len ∙ ap (λ (x : Service). x.replies) e;
      left = ap (λ (n : ℕ). drop n input) (s.taken ∙ ap (λ (x : Service). x.taken) e) ∙ after_frames input;
    }

-- a call of `keep` after it: the front of the memory is the unfinished end, cut to 110 bytes
pub kept_front : KeptFront
unfolding kept_of
kept_front g input after memory memory' r end n c e k =
    over_front _ memory memory' n k.memory k.len ∙ ap (λ (l : List ℕ). take most_kept (drop r.taken l)) e ∙ ap (take most_kept) c.left
