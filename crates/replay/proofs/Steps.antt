-- Each public call answers as the ledger does.
use Rattle.std.proofs.Common.{◌≡◌, ℕ, false, eqb, ◌≢◌, List, length, Ok, Err, Result, sym, refl, ap, ◌∙◌, subst, inl, inr, arith}
use Rattle.std.proofs.lemmas.Bool.{ne_eqb}
use Rattle.source.specs.declared.fault.Fault.{Fault}
use Rattle.ledger.specs.Ledger.{Ledger, Call, Answer, outcome}
use Rattle.ledger.specs.Ledger.Call.{register, write, read, close}
use Rattle.ledger.specs.Ledger.Answer.{refused}
use Rattle.ledger.proofs.Ports.{port_laws}
use Rattle.ledger.specs.Port.{widest}
use Rattle.storage.specs.declared.ring.RingBuffer.{RingBuffer}
use Rattle.storage.specs.declared.view.View.{View}
use Rattle.storage.specs.declared.written.Written.{Written}
use Rattle.storage.specs.Ledgers as ring
use Rattle.storage.specs.Ledgers.{hands}
use Rattle.storage.specs.Writes.{Stores, writes}
use Rattle.shrev.specs.declared.channel.EventChannel.{EventChannel}
use Rattle.shrev.specs.Channels.{ledger_of, Unchanged}
use Rattle.replay.specs.Steps.{Held, ledger_held, Does, CallsAnswer, ChannelsKeepLaws, channel_port}

module _ {E : Type 0} where
  -- slots of another count are refused before anything else is looked at
  other_write : (l : Ledger E) (count : ℕ) (new : List E) → count ≢ l.slots → outcome l (write count new) ≡ (refused 5, l)
  other_write l count new h = let e : eqb count l.slots ≡ false = ne_eqb count l.slots h in rw e

  other_read : (l : Ledger E) (count instance number : ℕ) → count ≢ l.slots → outcome l (read count instance number) ≡ (refused 5, l)
  other_read l count instance number h = let e : eqb count l.slots ≡ false = ne_eqb count l.slots h in rw e

  -- a write that was refused left the ring as it was
  refused-write : (r : Result Written Fault) (c d : RingBuffer E) (slots slots' new : List E) → Stores r c d slots slots' new → writes {E = E} r ≡ refused 5 → d ≡ c
  refused-write (Ok w) c d slots slots' new s e = let z : ◌≡◌ {A = ℕ} 0 1 = cc in absurd (omega arith)
  refused-write (Err f) c d slots slots' new s e = s.0

  refused-read : (r : Result (View E) Fault) (c d : EventChannel E) → Unchanged r c d → hands {E = E} r ≡ refused 5 → d ≡ c
  refused-read (Ok v) c d s e = let z : ◌≡◌ {A = ℕ} 0 1 = cc in absurd (omega arith)
  refused-read (Err f) c d s e = s

  -- an answer and a ledger in the place of equal ones
  in_place : (x : Answer E × Ledger E) (a b : Answer E) (l m : Ledger E) → (a, l) ≡ x → b ≡ a → m ≡ l → x ≡ (b, m)
  in_place x a b l m e p q = cc

  written : (s t : Held E) (count : ℕ) (new : List E) (a : Answer E) → Does s (write count new) a t → outcome (ledger_held s) (write count new) ≡ (a, ledger_held t)
  written s t count new a (inl (own, w)) =
      subst (λ (n : ℕ). outcome (ledger_held s) (write n new) ≡ (a, ledger_held t)) (sym own)
      (in_place _ (writes w.result) a (ledger_held t) (ledger_held t) w.ledger w.answer refl)
  written s t count new a (inr (others, others', own, ne, kept, w)) =
      let there : (writes w.result, ledger_of t.0 others') ≡ (refused 5, ledger_of s.0 others) =
      w.ledger ∙ other_write (ledger_of s.0 others) (length others) new (subst (λ (n : ℕ). n ≢ s.0.ring.slots) own ne) in
      let f : writes w.result ≡ refused 5 = ap (λ x. x.0) there in
      let same = refused-write w.result s.0.ring t.0.ring others others' new w.stored f in
      let stays : ledger_held t ≡ ledger_held s = ap (λ (r : RingBuffer E). ring.ledger_of r t.1) same ∙ ap (λ slots. ledger_of s.0 slots) kept in
      other_write (ledger_held s) count new ne ∙ in_place _ (refused 5) a (ledger_held s) (ledger_held t) refl (w.answer ∙ f) stays

  was_read : (s t : Held E) (count instance number : ℕ) (a : Answer E) → Does s (read count instance number) a t → outcome (ledger_held s) (read count instance number) ≡ (a, ledger_held t)
  was_read s t count instance number a (kept, inl (own, r)) =
      subst (λ (n : ℕ). outcome (ledger_held s) (read n instance number) ≡ (a, ledger_held t)) (sym own)
      (in_place _ (hands r.result) a (ledger_of t.0 s.1) (ledger_held t) r.ledger r.answer (ap (λ slots. ledger_of t.0 slots) kept))
  was_read s t count instance number a (kept, inr (others, own, ne, r)) =
      let there : (hands r.result, ledger_of t.0 others) ≡ (refused 5, ledger_of s.0 others) =
      r.ledger ∙ other_read (ledger_of s.0 others) (length others) instance number (subst (λ (n : ℕ). n ≢ s.0.ring.slots) own ne) in
      let f : hands r.result ≡ refused 5 = ap (λ x. x.0) there in
      let same = refused-read r.result s.0 t.0 r.refused f in
      let stays : ledger_held t ≡ ledger_held s = ap (λ (c : EventChannel E). ledger_of c t.1) same ∙ ap (λ slots. ledger_of s.0 slots) kept in
      other_read (ledger_held s) count instance number ne ∙ in_place _ (refused 5) a (ledger_held s) (ledger_held t) refl (r.answer ∙ f) stays

  does : (s t : Held E) (c : Call E) (a : Answer E) → Does s c a t → outcome (ledger_held s) c ≡ (a, ledger_held t)
  does s t register a (kept, r) =
      in_place _ _ a (ledger_of t.0 s.1) (ledger_held t) (r.ledger s.1) r.answer (ap (λ slots. ledger_of t.0 slots) kept)
  does s t (close instance number) a (kept, r) =
      in_place _ _ a (ledger_of t.0 s.1) (ledger_held t) (r.ledger s.1) r.answer (ap (λ slots. ledger_of t.0 slots) kept)
  does s t (write count new) a d = written s t count new a d
  does s t (read count instance number) a d = was_read s t count instance number a d

pub calls_answer : {E : Type 0} → CallsAnswer E
calls_answer s e t d = does s t e.call e.answer d

pub channels_keep_laws : {E : Type 0} → ChannelsKeepLaws E
channels_keep_laws =
    record { answer = calls_answer; public_calls = port_laws (channel_port calls_answer); any_calls = port_laws (widest ledger_held) }
