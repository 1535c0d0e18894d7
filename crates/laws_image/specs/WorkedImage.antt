-- The image of a small scenario, byte for byte, in both versions.
use Rattle.std.specs.Prelude.{◌≡◌, ℕ, pos, List, [], ◌∷◌, ◌++◌, length, None}
use Rattle.byte_layout.specs.declared.fault.LayoutFault.TheVariants.{Magic, Version, Cut, Trailing, BadField, Limit}
use Rattle.lwm2m_values.specs.declared.value.Value.TheVariants.{Whole}
use Rattle.object_defs.specs.Base.{base}
use Rattle.instance_store.specs.Stored.{empty, with_instance, with_value}
use Rattle.device_template.specs.Template.{Template}
use Rattle.device_machine.specs.declared.event.Event.TheVariants.{Recv}
use Rattle.scenario_image.specs.Image.{HasImageFault, IsImageIn}
use Rattle.scenario_image.specs.Scenario.{Scenario}
use Rattle.scenario_image.specs.declared.step.Step.TheVariants.{Event}

-- a GET of /3/0/9 in a Confirmable message, with message ID 1 and no token
abbrev pub datagram : List ℕ
datagram = 0x40 ∷ 0x01 ∷ 0x00 ∷ 0x01 ∷ 0xB1 ∷ 0x33 ∷ 0x01 ∷ 0x30 ∷ 0x01 ∷ 0x39 ∷ []

-- a class with the account of server 1, an instance 3/0, and 100 at /3/0/9, whose devices send Non-confirmable
-- notifications
abbrev pub class : Template
class =
    record {
      accounts = 1 ∷ [];
      catalog = base;
      store = with_value (with_instance empty (record { object = 3; instance = 0 }))
          (record { object = 3; instance = 0; resource = 9; part = None }) (Whole (pos 100));
      notify = 0;
    }

-- one device of this class, to which server 1 sends the datagram
abbrev pub scenario : Scenario
scenario =
    record {
      classes = class ∷ [];
      rows = record { class = 0; steps = Event (Recv 1 datagram) ∷ [] } ∷ [];
    }

-- the class, after what its version begins it with: one account, 1; no object; one instance, 3 and 0; one value, at 3,
-- 0 and 9, which is no part, and of kind 1, an Integer of 8 bytes
abbrev pub class_bytes : List ℕ
class_bytes =
    0x01 ∷ 0x00 ∷ 0x01
    ∷ 0x00
    ∷ 0x00 ∷ 0x01 ∷ 0x00 ∷ 0x03 ∷ 0x00 ∷ 0x00
    ∷ 0x00 ∷ 0x01 ∷ 0x00 ∷ 0x03 ∷ 0x00 ∷ 0x00 ∷ 0x00 ∷ 0x09 ∷ 0x00
    ∷ 0x01 ∷ 0x00 ∷ 0x00 ∷ 0x00 ∷ 0x00 ∷ 0x00 ∷ 0x00 ∷ 0x00 ∷ 0x64
    ∷ []

-- one row: of class 0, with one step, which is of kind 1 and has a server, 1, and a datagram of 10 bytes
abbrev pub rows_bytes : List ℕ
rows_bytes =
    0x00 ∷ 0x01
    ∷ 0x00 ∷ 0x00 ∷ 0x00 ∷ 0x01
    ∷ 0x01 ∷ 0x00 ∷ 0x01 ∷ 0x00 ∷ 0x0A
    ∷ datagram

-- the mark, the version, and one class; which begins with how it notifies in version 2
abbrev pub image_1 : List ℕ
image_1 = 0x4C ∷ 0x57 ∷ 0x53 ∷ 0x43 ∷ 0x01 ∷ 0x00 ∷ 0x01 ∷ class_bytes ++ rows_bytes

abbrev pub image_2 : List ℕ
image_2 = 0x4C ∷ 0x57 ∷ 0x53 ∷ 0x43 ∷ 0x02 ∷ 0x00 ∷ 0x01 ∷ 0x00 ∷ class_bytes ++ rows_bytes

pub record IsWorkedImage : Type 0 where
  pub length_1 : length image_1 ≡ 56
  pub length_2 : length image_2 ≡ 57
  pub version_1 : IsImageIn 1 image_1 scenario
  pub version_2 : IsImageIn 2 image_2 scenario

-- ---- no class and no device

abbrev pub nothing : Scenario
nothing = record { classes = []; rows = [] }

pub record IsEmptyImage : Type 0 where
  pub version_1 : IsImageIn 1 (0x4C ∷ 0x57 ∷ 0x53 ∷ 0x43 ∷ 0x01 ∷ 0x00 ∷ 0x00 ∷ 0x00 ∷ 0x00 ∷ []) nothing
  pub version_2 : IsImageIn 2 (0x4C ∷ 0x57 ∷ 0x53 ∷ 0x43 ∷ 0x02 ∷ 0x00 ∷ 0x00 ∷ 0x00 ∷ 0x00 ∷ []) nothing

-- ---- faults, by places that count from 0

pub record HasWorkedFaults : Type 0 where
  pub magic : HasImageFault (0x00 ∷ 0x57 ∷ 0x53 ∷ 0x43 ∷ 0x02 ∷ 0x00 ∷ 0x00 ∷ 0x00 ∷ 0x00 ∷ []) Magic
  pub version : HasImageFault (0x4C ∷ 0x57 ∷ 0x53 ∷ 0x43 ∷ 0x03 ∷ 0x00 ∷ 0x00 ∷ 0x00 ∷ 0x00 ∷ []) Version
  pub cut : HasImageFault (0x4C ∷ 0x57 ∷ 0x53 ∷ 0x43 ∷ 0x02 ∷ 0x00 ∷ 0x00 ∷ 0x00 ∷ []) Cut
  pub trailing : HasImageFault (0x4C ∷ 0x57 ∷ 0x53 ∷ 0x43 ∷ 0x02 ∷ 0x00 ∷ 0x00 ∷ 0x00 ∷ 0x00 ∷ 0x00 ∷ []) Trailing
  -- a class that waits 1 second at first
  pub field : HasImageFault (0x4C ∷ 0x57 ∷ 0x53 ∷ 0x43 ∷ 0x02 ∷ 0x00 ∷ 0x01 ∷ 0x01 ∷ class_bytes ++ rows_bytes)
      (BadField 7)
  -- 257 classes
  pub limit : HasImageFault (0x4C ∷ 0x57 ∷ 0x53 ∷ 0x43 ∷ 0x02 ∷ 0x01 ∷ 0x01 ∷ []) (Limit 5)
