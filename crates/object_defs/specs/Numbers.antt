-- The numbers of the base objects, and of those of their resources for which there are rules (OMA LwM2M 1.1 Core).
use Rattle.std.specs.Prelude.{ℕ}

abbrev pub security_object : ℕ
security_object = 0

abbrev pub server_object : ℕ
server_object = 1

abbrev pub access_control_object : ℕ
access_control_object = 2

abbrev pub device_object : ℕ
device_object = 3

abbrev pub firmware_update_object : ℕ
firmware_update_object = 5

-- ---- resources of Server

abbrev pub short_server_id : ℕ
short_server_id = 0

abbrev pub default_minimum_period : ℕ
default_minimum_period = 2

abbrev pub default_maximum_period : ℕ
default_maximum_period = 3

abbrev pub disable : ℕ
disable = 4

abbrev pub registration_update_trigger : ℕ
registration_update_trigger = 8

-- ---- resources of Access Control

abbrev pub object_id : ℕ
object_id = 0

abbrev pub object_instance_id : ℕ
object_instance_id = 1

abbrev pub acl : ℕ
acl = 2

abbrev pub access_control_owner : ℕ
access_control_owner = 3

-- ---- resources of Device

abbrev pub reboot : ℕ
reboot = 4

abbrev pub factory_reset : ℕ
factory_reset = 5

abbrev pub error_code : ℕ
error_code = 11

abbrev pub reset_error_code : ℕ
reset_error_code = 12

-- ---- resources of Firmware Update

abbrev pub update_package : ℕ
update_package = 0

abbrev pub package_uri : ℕ
package_uri = 1

abbrev pub update : ℕ
update = 2

abbrev pub update_state : ℕ
update_state = 3

abbrev pub update_result : ℕ
update_result = 5
