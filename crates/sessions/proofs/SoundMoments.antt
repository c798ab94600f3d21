-- What a sound moment says of references and mutators.
use Rattle.std.proofs.Common.{◌≡◌, sym, ◌∙◌, ap, ℕ, ◌<◌, arith, true, not, length, IsTrue}
use Rattle.std.proofs.lemmas.Bool.{ne_eqb}
use Rattle.std.proofs.lemmas.List.{length-map}
use Rattle.std.proofs.lemmas.List.FromFn.{length-range_with_len}
use Rattle.ideal_heap.specs.declared.name.Name.{Name}
use Rattle.ideal_heap.specs.Reach.{PathReaches}
use Rattle.object_model.specs.Objects.{IsHeld, name_at, refs_at, ref_at, is_reference, is_unlogged}
use Rattle.object_model.specs.Ages.{is_old}
use Rattle.object_model.specs.Graphs.{IsReachable, roots_of}
use Rattle.sessions.specs.Sessions.{Setting, Moment, IsSound, ideal_at}

some-reference : (v : ℕ) → 0 < v → IsTrue (is_reference v)
some-reference v some = ap not (ne_eqb v 0 (λ e. omega arith))

module _ (t : Setting) (now : Moment) (sound : IsSound t now) where
  pub no-dangling : (a i : ℕ) → IsHeld now.heap a → i < refs_at now.heap a → 0 < ref_at now.heap a i → IsHeld now.heap (ref_at now.heap a i)
  no-dangling a i holds less some = sound.lawful.but_lines.order.objects.references a i holds less (some-reference _ some)

  pub old-to-old : t.rules.young ≡ true → (a i : ℕ) → IsHeld now.heap a → is_old now.heap a ≡ true → is_unlogged now.heap a ≡ true → i < refs_at now.heap a → 0 < ref_at now.heap a i
      → is_old now.heap (ref_at now.heap a i) ≡ true
  old-to-old young a i holds old unlogged less some = ((sound.remembers young).fields a i holds old unlogged less (some-reference _ some)).1

  pub reached : (n : Name) → PathReaches (ideal_at now) n → (a : ℕ) × IsReachable now.heap (roots_of now.mutators) a × (name_at now.heap a ≡ n)
  reached = sound.represents.all

  pub as-many : length now.mutators ≡ length t.traces
  as-many = sym (length-map now.mutators (λ m. m.number)) ∙ ap length sound.listed ∙ length-range_with_len 1 (length t.traces)
