-- A whole run on a channel just opened, and the laws that it keeps.
use Rattle.std.proofs.Common.{◌≡◌, ℕ, List, length, take, sym, ap, ◌∙◌, subst}
use mathlib.Core.Path.{subst⁻¹}
use Rattle.ledger.specs.Ledger.{Ledger, Opening, just_opened}
use Rattle.ledger.specs.Ledger as ledger
use Rattle.ledger.specs.Histories.{Told, after, History, at_end}
use Rattle.ledger.proofs.Refusals.{opening-figures}
use Rattle.ledger.proofs.Totals.{reached-sound, readers_hold, equal_totals, equal_waiting}
use Rattle.ledger.proofs.Found.{registrations}
use Rattle.ledger.proofs.Runs.{equal_after_writes}
use Rattle.storage.specs.declared.grant.Grant.{Grant}
use Rattle.storage.specs.Openings.{Granted}
use Rattle.shrev.specs.declared.channel.EventChannel.{EventChannel}
use Rattle.shrev.specs.Channels.{ledger_of}
use Rattle.replay.specs.declared.words.Replayed.{Replayed}
use Rattle.replay.specs.Runs.{state}
use Rattle.replay.specs.Logs.{RunLaws, LoggedAll, Desk, WholeRun, answers_of}
use Rattle.replay.proofs.Runs.{run_told, run_ends, run_leads}

module _ {E : Type 0} where
  -- the laws of a told history are those of its end
  run_laws : (h : History E) (end : Ledger E) → end ≡ at_end h → RunLaws h.entries end
  run_laws h end e =
      subst⁻¹ (λ (l : Ledger E). RunLaws h.entries l) e
      (record {
        sound = reached-sound h;
        readers_hold = readers_hold h;
        open_one = registrations.open_one h;
        equal_totals = λ r s. equal_totals h h r s;
        equal_totals_beside = λ k r s. equal_totals h k r s;
        equal_waiting = equal_waiting h;
        equal_channels = equal_after_writes h;
      })

  -- figures that are equal open equal ledgers
  same_opening : (o : Opening) (g : Grant) → o.instance ≡ g.instance → o.size ≡ g.size → o.slots ≡ g.slots
      → ledger.fresh {E = E} g.instance g.size g.slots ≡ just_opened o
  same_opening o g p q r = cc

module _ {E S : Type 0} (means : S → List E) (beneath : S → List (List E)) (others : ℕ) where
  pub whole_run : (size : ℕ) (before after' : Desk E S) (x : Replayed E) (grant : Grant) (start : EventChannel E)
      → Granted before.issuer after'.issuer size (length before.slots) grant
      → ((slots : List E) → ledger_of start slots ≡ ledger.fresh grant.instance grant.size grant.slots)
      → LoggedAll means beneath others (state start before.slots before.ids) before.calls before.notes before.log
      x.events after'.notes after'.log after'.calls (state x.channel after'.slots after'.ids)
      → WholeRun means beneath others size before x after'
  whole_run size before after' x grant start granted fresh logged =
      let f = (opening-figures before.issuer.next size (length before.slots)).0 granted.unrefused in
      let o : Opening = f.0 in
      let opened : (slots : List E) → ledger_of start slots ≡ just_opened o =
      λ slots. fresh slots
      ∙ same_opening o grant (f.1 ∙ sym granted.instance) (f.2 ∙ sym granted.size) (f.3 ∙ sym granted.slots) in
      let p = state start before.slots before.ids in
      let q = state x.channel after'.slots after'.ids in
      let answers = answers_of (take (length before.calls) after'.notes) after'.log in
      let told : Told (just_opened o) logged.entries =
      subst (λ (l : Ledger E). Told l logged.entries) (opened before.slots)
      (run_told means beneath others p q before.calls after'.calls answers logged.entries logged.ran) in
      let ends : ledger_of x.channel after'.slots ≡ after (just_opened o) logged.entries =
      run_ends means beneath others p q before.calls after'.calls answers logged.entries logged.ran
      ∙ ap (λ l. after l logged.entries) (opened before.slots) in
      let h : History E = record { opening = o; entries = logged.entries; told = told } in
      record {
        opening = o;
        instance = f.1;
        first_size = f.2;
        slots = f.3;
        next = granted.next;
        start = start;
        fresh = opened;
        logged = logged;
        told = told;
        ends = ends;
        laws = run_laws h (ledger_of x.channel after'.slots) ends;
        leads = run_leads means beneath others p q before.calls after'.calls answers logged.entries logged.ran;
      }
