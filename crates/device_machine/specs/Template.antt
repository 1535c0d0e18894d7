-- The flat state that a device starts in.
use Rattle.std.specs.Prelude.{[]}
use Rattle.std.specs.FinMap as map
use Rattle.device_template.specs.Template.{Template, with_idle_firmware}
use Rattle.device_machine.specs.State.{DeviceState}

-- what a device of the class keeps at its start
abbrev pub start_of : Template → DeviceState
start_of class =
    record {
      client = record {
        accounts = class.accounts;
        catalog = class.catalog;
        store =
            with_idle_firmware class.store;
        attributes = map.empty;
        notify = class.notify;
      };
      observations = [];
      clock = 0;
      next_id = 0;
    }
