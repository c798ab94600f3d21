use Rattle.std.proofs.Common.{◌≡◌, ◌≤◌, All, length, take}
use Rattle.std.specs.Prelude.{vec_len, vec_capacity}
use Rattle.command_line.specs.Orders.{texts}
use Rattle.driver.specs.Printed.{AreTraces, AsksFirst}
use Rattle.mm_runtime.specs.Managers.{IsRunnableTrace}
use Rattle.driver.proofs.traces.traces_of_files.Given as goal

abbrev pub invariant-loop-place : goal.invariant-loop-place
invariant-loop-place g l =
    let s = g.S.Sources in record {
      read : AreTraces (s.state l.fn.sources).content (take l.place (texts l.files)) l.traces.items;
      asked : AsksFirst l.place (texts l.files) (s.state l.fn.sources).asked (s.state l.sources).asked;
      fit : All IsRunnableTrace l.traces.items;
      count : vec_len l.traces ≡ l.place;
      room : length l.files ≤ vec_capacity l.traces;
      later : (s.state l.fn.sources).faults ≤ (s.state l.sources).faults;
      same : (s.state l.sources).content ≡ (s.state l.fn.sources).content;
    }
