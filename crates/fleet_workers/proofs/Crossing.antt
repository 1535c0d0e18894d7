-- That what the workers share may cross threads.
use denote.RattleType.{RattleType}
use denote.Enum.Declared as E
use denote.Enum.Enum.{Enum}
use denote.Param.Send.{IsSend, IsSync, EachSend, EachSync, enum_send, enum_sync, recorded_sync, sendable}
use denote.Param.SendFields.{declared_send}
use Rattle.std.proofs.Crossing as std
use Rattle.std.proofs.MapsCrossing as maps
use Rattle.octets.specs.contracts.bytes.Bytes as Bytes
use Rattle.coap_codec.specs.contracts.option.Opt as Opt
use Rattle.lwm2m_values.specs.contracts.value.Value as Value
use Rattle.object_defs.specs.contracts.path.Path as Path
use Rattle.object_defs.specs.contracts.catalog.Catalog as Catalog
use Rattle.instance_store.specs.contracts.table.Table as Table
use Rattle.instance_store.specs.contracts.resource.Resource as Resource
use Rattle.instance_store.specs.contracts.instance.Instance as Instance
use Rattle.instance_store.specs.contracts.store.Store as Store
use Rattle.notifier.specs.contracts.observation.Report as Report
use Rattle.notifier.specs.contracts.observation.Timer as Timer
use Rattle.notifier.specs.contracts.observation.Observation as Observation
use Rattle.notifier.specs.contracts.observations.Observations as Observations
use Rattle.notifier.specs.contracts.pending.Outlook as Outlook
use Rattle.notifier.specs.contracts.attributes.Attributes as Attributes
use Rattle.device_requests.specs.contracts.client.Client as Client
use Rattle.device_machine.specs.contracts.recorded.Recorded as Recorded
use Rattle.device_machine.specs.contracts.records.Records as Records
use Rattle.device_machine.specs.contracts.output.Output as Output
use Rattle.device_machine.specs.contracts.output.Items as Items
use Rattle.device_machine.specs.contracts.output.Outputs as Outputs
use Rattle.device_machine.specs.contracts.device.Device as Device
use Rattle.device_machine.specs.contracts.event.Event as Event
use Rattle.device_template.specs.contracts.template.Template as Template
use Rattle.scenario_image.specs.contracts.step.Step as Step
use Rattle.scenario_image.specs.contracts.row.Row as Row
use Rattle.scenario_image.specs.contracts.scenario.Scenario as Scenario
use Rattle.trace_file.specs.contracts.entry.Entry as Entry
use Rattle.fleet_core.specs.contracts.held.State as State
use Rattle.fleet_core.specs.contracts.held.Held as Held
use Rattle.fleet_core.specs.contracts.next.Next as Next
use Rattle.entry_pages.specs.contracts.pages.Pages as Pages
use Rattle.device_stations.specs.contracts.station.Place as Place
use Rattle.device_stations.specs.contracts.station.Station as Station
use Rattle.shared_trace.specs.contracts.trace.Trace as Trace
use Rattle.worker_visits.specs.contracts.ends.LoopEnd as LoopEnd

bytes_send : IsSend Bytes.the_row
bytes_send = search (sendable, std.crosses) depth 40 parts 12

value_send : IsSend Value.the_row
value_send = search (sendable, std.crosses, bytes_send) depth 30

path_send : IsSend Path.the_row
path_send = search sendable depth 30

table_send : (T : RattleType) → IsSend T → IsSend (Table.the_row T)
table_send T s = search (sendable, std.crosses) depth 30 parts 12

resource_send : IsSend Resource.the_row
resource_send = search (sendable, std.crosses, value_send, table_send) depth 30 parts 12

instance_send : IsSend Instance.the_row
instance_send = search (sendable, std.crosses, resource_send, table_send) depth 30 parts 12

store_send : IsSend Store.the_row
store_send = search (sendable, std.crosses, instance_send, table_send) depth 30 parts 12

catalog_send : IsSend Catalog.the_row
catalog_send = search (sendable, std.crosses) depth 30 parts 12

attributes_send : IsSend Attributes.the_row
attributes_send = search (sendable, std.crosses, maps.crosses) depth 30

output_send : IsSend Output.the_row
output_send = search (sendable, bytes_send) depth 30

output_field_send : IsSend (Output.the_field).row
output_field_send = search (sendable, bytes_send) depth 30

items_parts : EachSend (E.shape Items.the_type).variants
items_parts = ((output_field_send, tt), ((search (sendable, std.Vec-send, output_send) depth 30, tt), tt))

items_field_send : IsSend (Items.the_field).row
items_field_send = enum_send (E.shape Items.the_type) items_parts

outputs_send : IsSend Outputs.the_row
outputs_send = search (sendable, std.crosses, items_field_send) depth 30 parts 12

entry_send : IsSend Entry.the_row
entry_send = search (sendable, outputs_send) depth 30 parts 12

opt_send : IsSend Opt.the_row
opt_send = search (sendable, bytes_send) depth 30

report_send : IsSend Report.the_row
report_send = search (sendable, bytes_send) depth 30

recorded_send : IsSend Recorded.the_row
recorded_send = search (sendable, std.crosses, bytes_send) depth 30

records_send : IsSend Records.the_row
records_send = search (sendable, std.crosses, maps.crosses, recorded_send) depth 30 parts 12

timer_send : IsSend Timer.the_row
timer_send = search (sendable, bytes_send) depth 30

observation_send : IsSend Observation.the_row
observation_send =
    declared_send Observation.the_type (
      search sendable,
      (
        bytes_send,
        (
          path_send,
          (
            search sendable depth 20,
            (
              report_send,
              (
                search sendable,
                (search sendable, (search sendable, (search sendable, (search (sendable, timer_send) depth 20, tt)))),
              ),
            ),
          ),
        ),
      ),
    )

outlook_send : IsSend Outlook.the_row
outlook_send = search sendable depth 30

observations_send : IsSend Observations.the_row
observations_send = search (sendable, std.crosses, maps.crosses, observation_send, outlook_send) depth 30 parts 12

client_send : IsSend Client.the_row
client_send = search (sendable, std.crosses, catalog_send, store_send, attributes_send) depth 30 parts 12

pub device_send : IsSend Device.the_row
device_send = search (sendable, std.crosses, client_send, observations_send, records_send, opt_send) depth 30 parts 12

state_parts : EachSend (E.shape State.the_type).variants
state_parts = (
  (search (sendable, std.crosses) depth 30, tt),
  ((search (sendable, device_send) depth 30, tt), ((search (sendable, std.crosses) depth 30, tt), tt)),
)

state_field_send : IsSend (State.the_field).row
state_field_send = enum_send (E.shape State.the_type) state_parts

held_send : IsSend Held.the_row
held_send = search (sendable, state_field_send) depth 30 parts 12

place_send : IsSend Place.the_row
place_send = search (sendable, held_send) depth 30 parts 12

next_send : IsSend Next.the_row
next_send = search sendable depth 30

station_send : IsSend Station.the_row
station_send = declared_send Station.the_type
    (place_send, (search sendable depth 20, (next_send, (search (sendable, std.crosses) depth 20, tt))))

pages_send : IsSend Pages.the_row
pages_send = search (sendable, std.crosses, entry_send) depth 30 parts 12

pub trace_send : IsSend Trace.the_row
trace_send = search (sendable, std.crosses, pages_send, station_send) depth 30 parts 12

pub end_send : IsSend LoopEnd.the_row
end_send = search sendable depth 30

-- ---- sync

bytes_sync : IsSync Bytes.the_row
bytes_sync = search (sendable, std.crosses) depth 40 parts 12

value_sync : IsSync Value.the_row
value_sync = search (sendable, std.crosses, bytes_sync) depth 30

table_sync : (T : RattleType) → IsSync T → IsSync (Table.the_row T)
table_sync T s = search (sendable, std.crosses) depth 30 parts 12

resource_sync : IsSync Resource.the_row
resource_sync = search (sendable, std.crosses, value_sync, table_sync) depth 30 parts 12

instance_sync : IsSync Instance.the_row
instance_sync = search (sendable, std.crosses, resource_sync, table_sync) depth 30 parts 12

store_sync : IsSync Store.the_row
store_sync = search (sendable, std.crosses, instance_sync, table_sync) depth 30 parts 12

catalog_sync : IsSync Catalog.the_row
catalog_sync = search (sendable, std.crosses) depth 30 parts 12

template_sync : IsSync Template.the_row
template_sync = search (sendable, std.crosses, catalog_sync, store_sync) depth 30 parts 12

path_field_sync : IsSync (Path.the_field).row
path_field_sync = search sendable depth 20

value_field_sync : IsSync (Value.the_field).row
value_field_sync = search (sendable, std.crosses, bytes_sync) depth 30

event_parts : EachSync (E.shape Event.the_type).variants
event_parts = (
  (search sendable depth 20, (bytes_sync, tt)),
  ((path_field_sync, (value_field_sync, tt)), ((search sendable depth 20, tt), ((search sendable depth 20, tt), tt))),
)

event_sync : IsSync (Event.the_field).row
event_sync = enum_sync (E.shape Event.the_type) event_parts

step_parts : EachSync (E.shape Step.the_type).variants
step_parts = (
  (event_sync, tt),
  ((search sendable depth 20, tt), ((search sendable depth 20, (search sendable depth 20, tt)), tt)),
)

step_sync : IsSync Step.the_row
step_sync = recorded_sync (Enum (E.shape Step.the_type)) (Step.the_type).D (Step.the_type).to (Step.the_type).to_one
    (enum_sync (E.shape Step.the_type) step_parts)

row_sync : IsSync Row.the_row
row_sync = search (sendable, std.crosses, step_sync) depth 30 parts 12

pub scenario_sync : IsSync Scenario.the_row
scenario_sync = search (sendable, std.crosses, template_sync, row_sync) depth 30 parts 12
