-- Worked examples of targets.
use Rattle.std.specs.Prelude.{ℕ, List, ◌++◌, codes}
use Rattle.tcel_target.specs.declared.costs.Costs.{Costs}
use Rattle.tcel_target.specs.Costs.{unit_costs}

-- each instruction takes one cycle
abbrev pub unit_text : List ℕ
unit_text =
    codes "const = 1\nload = 1\nstore = 1\nload_at = 1\nstore_at = 1\narith = 1\nmultiply = 1\ndivide = 1\njump = 1\nbranch = 1\nloop = 1\nreceive = 1\nsend = 1\nmark = 1\nend = 1\n"

-- and a frame starts after 7 ticks
abbrev pub dispatched_text : List ℕ
dispatched_text = unit_text ++ codes "dispatch = 7\n"

abbrev pub dispatched : Costs
dispatched = record unit_costs { dispatch = 7 }

-- a processor where each cost is another
abbrev pub many_costs : Costs
many_costs =
    record {
      const_ = 1;
      load = 2;
      store = 3;
      load_at = 5;
      store_at = 4;
      arith = 6;
      multiply = 8;
      divide = 7;
      jump = 10;
      branch = 9;
      loop_ = 11;
      receive = 12;
      send = 13;
      mark = 14;
      end = 16;
      dispatch = 15;
    }
