-- Written by tools/asn1/compile: change the ASN.1, not this file.
-- The module CAM-PDU-Descriptions: below each definition in ASN.1 stands what the theorem takes it for.
use Rattle.its_container.specs.ItsContainer.{acceleration_control, cause_code, cen_dsrc_tolling_zone, closed_lanes}
use Rattle.its_container.specs.ItsContainer.{curvature, curvature_calculation_mode, dangerous_goods_basic}
use Rattle.its_container.specs.ItsContainer.{drive_direction, embarkation_status, emergency_priority, exterior_lights}
use Rattle.its_container.specs.ItsContainer.{heading, its_pdu_header, lane_position, lateral_acceleration}
use Rattle.its_container.specs.ItsContainer.{light_bar_siren_in_use, longitudinal_acceleration, path_history}
use Rattle.its_container.specs.ItsContainer.{performance_class, protected_communication_zones_rsu, pt_activation}
use Rattle.its_container.specs.ItsContainer.{reference_position, roadworks_sub_cause_code, special_transport_type}
use Rattle.its_container.specs.ItsContainer.{speed, speed_limit, station_type, steering_wheel_angle, traffic_rule}
use Rattle.its_container.specs.ItsContainer.{vehicle_length, vehicle_role, vehicle_width, vertical_acceleration}
use Rattle.its_container.specs.ItsContainer.{yaw_rate}
use Rattle.rasn_below.specs.Page.{Component, TypeLists, automatic, choice, extensible_automatic, integer, optional}
use Rattle.rasn_below.specs.Page.{sequence, u16, ◌to◌}
use Rattle.std.specs.Prelude.{[], ◌∷◌}

-- GenerationDeltaTime ::= INTEGER { oneMilliSec(1) } (0..65535)
abbrev pub generation_delta_time : Component
generation_delta_time = integer u16 (0 to 65535)

-- BasicContainer ::= SEQUENCE {
--     stationType StationType,
--     referencePosition ReferencePosition,
--     ...
-- }
abbrev pub basic_container_lists : TypeLists
basic_container_lists = extensible_automatic (
    station_type ∷  -- stationType
    reference_position ∷  -- referencePosition
    []) []

abbrev pub basic_container : Component
basic_container = sequence basic_container_lists

-- BasicVehicleContainerHighFrequency ::= SEQUENCE {
--     heading Heading,
--     speed Speed,
--     driveDirection DriveDirection,
--     vehicleLength VehicleLength,
--     vehicleWidth VehicleWidth,
--     longitudinalAcceleration LongitudinalAcceleration,
--     curvature Curvature,
--     curvatureCalculationMode CurvatureCalculationMode,
--     yawRate YawRate,
--     accelerationControl AccelerationControl OPTIONAL,
--     lanePosition LanePosition OPTIONAL,
--     steeringWheelAngle SteeringWheelAngle OPTIONAL,
--     lateralAcceleration LateralAcceleration OPTIONAL,
--     verticalAcceleration VerticalAcceleration OPTIONAL,
--     performanceClass PerformanceClass OPTIONAL,
--     cenDsrcTollingZone CenDsrcTollingZone OPTIONAL
-- }
abbrev pub basic_vehicle_container_high_frequency_lists : TypeLists
basic_vehicle_container_high_frequency_lists = automatic (
    heading ∷  -- heading
    speed ∷  -- speed
    drive_direction ∷  -- driveDirection
    vehicle_length ∷  -- vehicleLength
    vehicle_width ∷  -- vehicleWidth
    longitudinal_acceleration ∷  -- longitudinalAcceleration
    curvature ∷  -- curvature
    curvature_calculation_mode ∷  -- curvatureCalculationMode
    yaw_rate ∷  -- yawRate
    optional acceleration_control ∷  -- accelerationControl
    optional lane_position ∷  -- lanePosition
    optional steering_wheel_angle ∷  -- steeringWheelAngle
    optional lateral_acceleration ∷  -- lateralAcceleration
    optional vertical_acceleration ∷  -- verticalAcceleration
    optional performance_class ∷  -- performanceClass
    optional cen_dsrc_tolling_zone ∷  -- cenDsrcTollingZone
    [])

abbrev pub basic_vehicle_container_high_frequency : Component
basic_vehicle_container_high_frequency = sequence basic_vehicle_container_high_frequency_lists

-- RSUContainerHighFrequency ::= SEQUENCE {
--     protectedCommunicationZonesRSU ProtectedCommunicationZonesRSU OPTIONAL,
--     ...
-- }
abbrev pub rsu_container_high_frequency_lists : TypeLists
rsu_container_high_frequency_lists = extensible_automatic (
    optional protected_communication_zones_rsu ∷  -- protectedCommunicationZonesRSU
    []) []

abbrev pub rsu_container_high_frequency : Component
rsu_container_high_frequency = sequence rsu_container_high_frequency_lists

-- HighFrequencyContainer ::= CHOICE {
--     basicVehicleContainerHighFrequency BasicVehicleContainerHighFrequency,
--     rsuContainerHighFrequency RSUContainerHighFrequency,
--     ...
-- }
abbrev pub high_frequency_container_lists : TypeLists
high_frequency_container_lists = extensible_automatic (
    basic_vehicle_container_high_frequency ∷  -- basicVehicleContainerHighFrequency
    rsu_container_high_frequency ∷  -- rsuContainerHighFrequency
    []) []

abbrev pub high_frequency_container : Component
high_frequency_container = choice high_frequency_container_lists

-- BasicVehicleContainerLowFrequency ::= SEQUENCE {
--     vehicleRole VehicleRole,
--     exteriorLights ExteriorLights,
--     pathHistory PathHistory
-- }
abbrev pub basic_vehicle_container_low_frequency_lists : TypeLists
basic_vehicle_container_low_frequency_lists = automatic (
    vehicle_role ∷  -- vehicleRole
    exterior_lights ∷  -- exteriorLights
    path_history ∷  -- pathHistory
    [])

abbrev pub basic_vehicle_container_low_frequency : Component
basic_vehicle_container_low_frequency = sequence basic_vehicle_container_low_frequency_lists

-- LowFrequencyContainer ::= CHOICE {
--     basicVehicleContainerLowFrequency BasicVehicleContainerLowFrequency,
--     ...
-- }
abbrev pub low_frequency_container_lists : TypeLists
low_frequency_container_lists = extensible_automatic (
    basic_vehicle_container_low_frequency ∷  -- basicVehicleContainerLowFrequency
    []) []

abbrev pub low_frequency_container : Component
low_frequency_container = choice low_frequency_container_lists

-- PublicTransportContainer ::= SEQUENCE {
--     embarkationStatus EmbarkationStatus,
--     ptActivation PtActivation OPTIONAL
-- }
abbrev pub public_transport_container_lists : TypeLists
public_transport_container_lists = automatic (
    embarkation_status ∷  -- embarkationStatus
    optional pt_activation ∷  -- ptActivation
    [])

abbrev pub public_transport_container : Component
public_transport_container = sequence public_transport_container_lists

-- SpecialTransportContainer ::= SEQUENCE {
--     specialTransportType SpecialTransportType,
--     lightBarSirenInUse LightBarSirenInUse
-- }
abbrev pub special_transport_container_lists : TypeLists
special_transport_container_lists = automatic (
    special_transport_type ∷  -- specialTransportType
    light_bar_siren_in_use ∷  -- lightBarSirenInUse
    [])

abbrev pub special_transport_container : Component
special_transport_container = sequence special_transport_container_lists

-- DangerousGoodsContainer ::= SEQUENCE {
--     dangerousGoodsBasic DangerousGoodsBasic
-- }
abbrev pub dangerous_goods_container_lists : TypeLists
dangerous_goods_container_lists = automatic (
    dangerous_goods_basic ∷  -- dangerousGoodsBasic
    [])

abbrev pub dangerous_goods_container : Component
dangerous_goods_container = sequence dangerous_goods_container_lists

-- RoadWorksContainerBasic ::= SEQUENCE {
--     roadworksSubCauseCode RoadworksSubCauseCode OPTIONAL,
--     lightBarSirenInUse LightBarSirenInUse,
--     closedLanes ClosedLanes OPTIONAL
-- }
abbrev pub road_works_container_basic_lists : TypeLists
road_works_container_basic_lists = automatic (
    optional roadworks_sub_cause_code ∷  -- roadworksSubCauseCode
    light_bar_siren_in_use ∷  -- lightBarSirenInUse
    optional closed_lanes ∷  -- closedLanes
    [])

abbrev pub road_works_container_basic : Component
road_works_container_basic = sequence road_works_container_basic_lists

-- RescueContainer ::= SEQUENCE {
--     lightBarSirenInUse LightBarSirenInUse
-- }
abbrev pub rescue_container_lists : TypeLists
rescue_container_lists = automatic (
    light_bar_siren_in_use ∷  -- lightBarSirenInUse
    [])

abbrev pub rescue_container : Component
rescue_container = sequence rescue_container_lists

-- EmergencyContainer ::= SEQUENCE {
--     lightBarSirenInUse LightBarSirenInUse,
--     incidentIndication CauseCode OPTIONAL,
--     emergencyPriority EmergencyPriority OPTIONAL
-- }
abbrev pub emergency_container_lists : TypeLists
emergency_container_lists = automatic (
    light_bar_siren_in_use ∷  -- lightBarSirenInUse
    optional cause_code ∷  -- incidentIndication
    optional emergency_priority ∷  -- emergencyPriority
    [])

abbrev pub emergency_container : Component
emergency_container = sequence emergency_container_lists

-- SafetyCarContainer ::= SEQUENCE {
--     lightBarSirenInUse LightBarSirenInUse,
--     incidentIndication CauseCode OPTIONAL,
--     trafficRule TrafficRule OPTIONAL,
--     speedLimit SpeedLimit OPTIONAL
-- }
abbrev pub safety_car_container_lists : TypeLists
safety_car_container_lists = automatic (
    light_bar_siren_in_use ∷  -- lightBarSirenInUse
    optional cause_code ∷  -- incidentIndication
    optional traffic_rule ∷  -- trafficRule
    optional speed_limit ∷  -- speedLimit
    [])

abbrev pub safety_car_container : Component
safety_car_container = sequence safety_car_container_lists

-- SpecialVehicleContainer ::= CHOICE {
--     publicTransportContainer PublicTransportContainer,
--     specialTransportContainer SpecialTransportContainer,
--     dangerousGoodsContainer DangerousGoodsContainer,
--     roadWorksContainerBasic RoadWorksContainerBasic,
--     rescueContainer RescueContainer,
--     emergencyContainer EmergencyContainer,
--     safetyCarContainer SafetyCarContainer,
--     ...
-- }
abbrev pub special_vehicle_container_lists : TypeLists
special_vehicle_container_lists = extensible_automatic (
    public_transport_container ∷  -- publicTransportContainer
    special_transport_container ∷  -- specialTransportContainer
    dangerous_goods_container ∷  -- dangerousGoodsContainer
    road_works_container_basic ∷  -- roadWorksContainerBasic
    rescue_container ∷  -- rescueContainer
    emergency_container ∷  -- emergencyContainer
    safety_car_container ∷  -- safetyCarContainer
    []) []

abbrev pub special_vehicle_container : Component
special_vehicle_container = choice special_vehicle_container_lists

-- CamParameters ::= SEQUENCE {
--     basicContainer BasicContainer,
--     highFrequencyContainer HighFrequencyContainer,
--     lowFrequencyContainer LowFrequencyContainer OPTIONAL,
--     specialVehicleContainer SpecialVehicleContainer OPTIONAL,
--     ...
-- }
abbrev pub cam_parameters_lists : TypeLists
cam_parameters_lists = extensible_automatic (
    basic_container ∷  -- basicContainer
    high_frequency_container ∷  -- highFrequencyContainer
    optional low_frequency_container ∷  -- lowFrequencyContainer
    optional special_vehicle_container ∷  -- specialVehicleContainer
    []) []

abbrev pub cam_parameters : Component
cam_parameters = sequence cam_parameters_lists

-- CoopAwareness ::= SEQUENCE {
--     generationDeltaTime GenerationDeltaTime,
--     camParameters CamParameters
-- }
abbrev pub coop_awareness_lists : TypeLists
coop_awareness_lists = automatic (
    generation_delta_time ∷  -- generationDeltaTime
    cam_parameters ∷  -- camParameters
    [])

abbrev pub coop_awareness : Component
coop_awareness = sequence coop_awareness_lists

-- CAM ::= SEQUENCE {
--     header ItsPduHeader,
--     cam CoopAwareness
-- }
abbrev pub cam_lists : TypeLists
cam_lists = automatic (
    its_pdu_header ∷  -- header
    coop_awareness ∷  -- cam
    [])

abbrev pub cam : Component
cam = sequence cam_lists
